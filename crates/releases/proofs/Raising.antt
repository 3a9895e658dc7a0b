-- The ordinals in rising precedence, and the next one put in.
use Rattle.std.proofs.Common.{◌≡◌, ◌∙◌, ◌<◌, ◌≤◌, ◌+◌, ◌-◌, ◌++◌, ◌∷◌, [], ℕ, List, Bool, length, get_or, take, drop, arith, ap, subst, sym, refl, inl, inr, true, false, ◌||◌, length-append, take-append-drop}
use Rattle.std.specs.Prelude.{nat_eq, is_ok, IsOk, Result, Ok, Err, if◌then◌else◌}
use Rattle.std.specs.List.{insert}
use Rattle.std.specs.declared.cmp.Ordering.TheVariants.{Less}
use Rattle.std.proofs.lemmas.Bool.{cases_lt, or_right, or_left}
use Rattle.std.proofs.lemmas.List.{get_or_append_left}
use Rattle.std.proofs.lemmas.List.Edits.{length-insert, get_or-insert_below, get_or-insert_at, get_or-insert_above}
use Rattle.std.proofs.lemmas.List.Folds.{list_any-append}
use Rattle.std.proofs.Math.Seq.{get_or-append_seam}
use Rattle.terms.specs.Sets.{has}
use Rattle.versions.specs.Words.{Text, precedence}
use Rattle.releases.specs.Releases.{version_at}
use Rattle.releases.specs.Rising.{IsGap, IsRising, risen}

shifted-or : (a b c : Bool) → (a || (b || c)) ≡ (b || (a || c))
shifted-or true true c = refl
shifted-or true false c = refl
shifted-or false b c = refl

-- what is in a list with one more element
has-insert : (xs : List ℕ) (i y k : ℕ) → has (insert xs i y) k ≡ (nat_eq y k || has xs k)
has-insert xs i y k =
    list_any-append (λ x. nat_eq x k) (take i xs) (y ∷ drop i xs)
    ∙ shifted-or (has (take i xs) k) (nat_eq y k) (has (drop i xs) k)
    ∙ ap (λ b. nat_eq y k || b) (sym (list_any-append (λ x. nat_eq x k) (take i xs) (drop i xs)) ∙ ap (λ l. has l k) (take-append-drop i xs))

itself : (k : ℕ) → nat_eq k k ≡ true
itself k = grind arith

module _ (versions : List Text) (rising : List ℕ) (version : Text) (place : ℕ) (r : IsRising versions rising) (gap : IsGap versions rising version place) where
  older : (k : ℕ) → k < length versions → version_at (versions ++ version ∷ []) k ≡ version_at versions k
  older k lt = get_or_append_left versions (version ∷ []) [] k lt

  -- what stands at a place after the next ordinal was put in
  stands : ℕ → Text
  stands j = risen (versions ++ version ∷ []) (insert rising place (length versions)) j

  low : (j : ℕ) → j < place → stands j ≡ risen versions rising j
  unfolding stands
  low j lt =
      ap (λ n. version_at (versions ++ version ∷ []) n) (get_or-insert_below rising place (length versions) 0 j lt gap.within)
      ∙ older (get_or rising j 0) (r.within j (omega (arith, gap.within)))

  at_gap : stands place ≡ version
  unfolding stands
  at_gap =
      ap (λ n. version_at (versions ++ version ∷ []) n) (get_or-insert_at rising place (length versions) 0 gap.within)
      ∙ get_or-append_seam versions version [] []

  high : (k : ℕ) → place ≤ k → k < length rising → stands (k + 1) ≡ risen versions rising k
  unfolding stands
  high k le lt =
      ap (λ n. version_at (versions ++ version ∷ []) n) (get_or-insert_above rising place (length versions) 0 k le gap.within)
      ∙ older (get_or rising k 0) (r.within k lt)

  -- the same of a place above the gap, by the place before it
  above : (j : ℕ) → place < j → j < length rising + 1 → stands j ≡ risen versions rising (j - 1)
  above j lt under =
      let next : j ≡ (j - 1) + 1 = omega arith in
      ap stands next ∙ high (j - 1) (omega arith) (omega arith)

  lower : (x y a b : Text) → x ≡ a → y ≡ b → precedence a b ≡ Less → precedence x y ≡ Less
  lower x y a b p q e = ap (λ t. precedence t y) p ∙ ap (λ t. precedence a t) q ∙ e

  rises : (i j : ℕ) → i < j → j < length rising + 1 → precedence (stands i) (stands j) ≡ Less
  rises i j lt under = elim (cases_lt j place) [
    | inl before ↦ lower _ _ _ _ (low i (omega arith)) (low j before) (r.rises i j lt (omega (arith, gap.within)))
    | inr from ↦ elim (cases_lt place j) [
      | inl over ↦ elim (cases_lt i place) [
        | inl first ↦ lower _ _ _ _ (low i first) (above j over under) (r.rises i (j - 1) (omega arith) (omega arith))
        | inr rest ↦ elim (cases_lt place i) [
          | inl second ↦ lower _ _ _ _ (above i second (omega arith)) (above j over under) (r.rises (i - 1) (j - 1) (omega arith) (omega arith))
          | inr same ↦
              let is : i ≡ place = omega arith in
              lower _ _ _ _ (ap stands is ∙ at_gap) (above j over under) (gap.below (j - 1) (omega arith) (omega arith))
        ]
      ]
      | inr same ↦
          let is : j ≡ place = omega arith in
          lower _ _ _ _ (low i (omega arith)) (ap stands is ∙ at_gap) (gap.above i (omega arith))
    ]
  ]

  within : (i : ℕ) → i < length rising + 1 → get_or (insert rising place (length versions)) i 0 < length versions + 1
  within i lt = elim (cases_lt i place) [
    | inl before ↦
        let e = get_or-insert_below rising place (length versions) 0 i before gap.within in
        omega (arith, e, r.within i (omega (arith, gap.within)))
    | inr from ↦ elim (cases_lt place i) [
      | inl over ↦
          let next : i ≡ (i - 1) + 1 = omega arith in
          let e = ap (λ n. get_or (insert rising place (length versions)) n 0) next ∙ get_or-insert_above rising place (length versions) 0 (i - 1) (omega arith) gap.within in
          omega (arith, e, r.within (i - 1) (omega arith))
      | inr same ↦
          let is : i ≡ place = omega arith in
          let e = ap (λ n. get_or (insert rising place (length versions)) n 0) is ∙ get_or-insert_at rising place (length versions) 0 gap.within in
          omega (arith, e)
    ]
  ]

  every : (k : ℕ) → k < length versions + 1 → has (insert rising place (length versions)) k ≡ true
  every k lt = has-insert rising place (length versions) k ∙ elim (cases_lt k (length versions)) [
    | inl old ↦ or_right (nat_eq (length versions) k) (has rising k) (r.every k old)
    | inr new ↦ let is : length versions ≡ k = omega arith in or_left (nat_eq (length versions) k) (has rising k) (ap (λ n. nat_eq n k) is ∙ itself k)
  ]

  raised-insert : IsRising (versions ++ version ∷ []) (insert rising place (length versions))
  unfolding stands
  raised-insert =
      let one : length (versions ++ version ∷ []) ≡ length versions + 1 = length-append versions (version ∷ []) in
      let more : length (insert rising place (length versions)) ≡ length rising + 1 = length-insert rising place (length versions) gap.within in
      record {
        paired = omega (arith, one, more, r.paired);
        within = λ i lt. let w = within i (omega (arith, more)) in omega (arith, w, one);
        every = λ k lt. every k (omega (arith, one));
        rises = λ i j lt under. rises i j lt (omega (arith, more));
      }

  -- the next ordinal, put in where its version stands
  pub raised : (with_ordinal : List ℕ) → with_ordinal ≡ insert rising place (length versions) → IsRising (versions ++ version ∷ []) with_ordinal
  raised with_ordinal e = let P : List ℕ → Type 0 = λ l. IsRising (versions ++ version ∷ []) l in subst P (sym e) raised-insert

-- what was put in, where that succeeded
pub if-ok : {X E Y : Type 0} → (result : Result X E) (now was more : List Y) → IsOk result → now ≡ (if is_ok result then more else was) → now ≡ more
if-ok (Ok x) now was more ok e = e
if-ok (Err x) now was more ok e = cc ok
