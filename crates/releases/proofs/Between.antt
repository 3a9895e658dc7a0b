-- What stands between the edges of a range, among ordinals in rising precedence.
use Rattle.std.proofs.Common.{◌≡◌, ◌∙◌, ◌<◌, ◌≤◌, ◌+◌, ◌-◌, [], ℕ, Bool, List, length, take, drop, get_or, arith, ap, subst, sym, inl, inr, true, false, true≢false, ◌&&◌, nat_eq, eqb-true}
use Rattle.std.specs.Prelude.{not}
use Rattle.std.specs.declared.cmp.Ordering.TheVariants.{Less}
use Rattle.std.proofs.lemmas.Bool.{cases_Bool, cases_lt}
use Rattle.std.proofs.lemmas.List.{get_or-drop, get_or-take, length-drop, length-take, take_all}
use Rattle.std.proofs.lemmas.List.Folds.{list_any_at}
use Rattle.std.proofs.lemmas.Option.{slice_get-get_or, slice_get_past}
use Rattle.std.proofs.Math.Bool.{and-false}
use Rattle.terms.specs.Sets.{has}
use Rattle.releases.proofs.BoundOrder.{end-rises, meets-plain, numbers-rise}
use Rattle.versions.specs.Bounds.{is_before, is_within, numbers_in, IsBounded, Reach}
use Rattle.versions.specs.Bounds as bound
use Rattle.versions.specs.Words.{Text, precedence}
use Rattle.releases.specs.declared.ranked.Edge.{Edge}
use Rattle.releases.specs.declared.ranked.Edge.TheVariants.{Begin, End}
use Rattle.releases.specs.Releases.{meets_at, meets_some, version_at}
use Rattle.releases.specs.Rising.{is_before_edge, risen, ArePlain, IsRising}
use Rattle.releases.proofs.Standing.{itself, place-of, witness}

-- ---- bisection

-- what is below low passes, and what is from high on fails, by the elements next to them
pub record IsBisecting (test : ℕ → Bool) (count low high : ℕ) : Type 0 where
  pub ordered : low ≤ high
  pub within : high ≤ count
  pub before : 0 < low → test (low - 1) ≡ true
  pub from : high < count → test high ≡ false

pub bisecting-begin : (test : ℕ → Bool) (count : ℕ) → IsBisecting test count 0 count
bisecting-begin test count = record {
  ordered = omega arith;
  within = omega arith;
  before = λ h. absurd (omega arith);
  from = λ h. absurd (omega arith);
}

pub bisecting-up : (test : ℕ → Bool) (count low high middle low' : ℕ) → IsBisecting test count low high → low ≤ middle → middle < high → low' ≡ middle + 1
    → test middle ≡ true → IsBisecting test count low' high
bisecting-up test count low high middle low' m le lt is passes = record {
  ordered = omega arith;
  within = m.within;
  before = λ h. let e : middle ≡ low' - 1 = omega arith in subst (λ n. test n ≡ true) e passes;
  from = m.from;
}

pub bisecting-down : (test : ℕ → Bool) (count low high middle : ℕ) → IsBisecting test count low high → low ≤ middle → middle < high
    → test middle ≡ false → IsBisecting test count low middle
bisecting-down test count low high middle m le lt fails = record {
  ordered = le;
  within = omega (arith, m.within);
  before = m.before;
  from = λ h. fails;
}

-- ---- edges

-- what stands before an edge, so does what has lower precedence
edge-rises : (edge : Edge) (reach : Reach) (a b : Text) → precedence a b ≡ Less → is_before_edge edge reach b ≡ true → is_before_edge edge reach a ≡ true
edge-rises Begin reach a b less before = numbers-rise a b reach.range.lowest less before
edge-rises End reach a b less before = end-rises a b reach.range.end less before

-- precedence rises from place to place
abbrev Rises : List Text → List ℕ → Type 0
Rises versions xs = (i j : ℕ) → i < j → j < length xs → precedence (risen versions xs i) (risen versions xs j) ≡ Less

module _ (edge : Edge) (reach : Reach) (versions : List Text) (xs : List ℕ) (rises : Rises versions xs) (place : ℕ) where
  all-before : place ≤ length xs → (0 < place → is_before_edge edge reach (risen versions xs (place - 1)) ≡ true)
      → (i : ℕ) → i < place → is_before_edge edge reach (risen versions xs i) ≡ true
  all-before within before i lt = elim (cases_lt i (place - 1)) [
    | inl under ↦ edge-rises edge reach _ _ (rises i (place - 1) under (omega arith)) (before (omega arith))
    | inr to ↦ let e : place - 1 ≡ i = omega arith in subst (λ n. is_before_edge edge reach (risen versions xs n) ≡ true) e (before (omega arith))
  ]

  all-from : (place < length xs → is_before_edge edge reach (risen versions xs place) ≡ false)
      → (i : ℕ) → place ≤ i → i < length xs → is_before_edge edge reach (risen versions xs i) ≡ false
  all-from from i le lt = elim (cases_lt place i) [
    | inl over ↦ elim (cases_Bool (is_before_edge edge reach (risen versions xs i))) [
      | inl passes ↦ absurd (true≢false (sym (edge-rises edge reach _ _ (rises place i over lt) passes) ∙ from (omega arith)))
      | inr fails ↦ fails
    ]
    | inr to ↦ let e : place ≡ i = omega arith in subst (λ n. is_before_edge edge reach (risen versions xs n) ≡ false) e (from (omega arith))
  ]

-- ---- what meets a requirement

module _ (versions : List Text) (rising : List ℕ) (r : IsRising versions rising) (plain : ArePlain versions) (reach : Reach) (known : reach.is_vague ≡ false)
    (begin end : ℕ) (far : end ≤ length (drop begin rising))
    (begin-within : begin ≤ length rising)
    (begin-before : 0 < begin → is_before_edge Begin reach (risen versions rising (begin - 1)) ≡ true)
    (begin-from : begin < length rising → is_before_edge Begin reach (risen versions rising begin) ≡ false)
    (end-before : 0 < end → is_before_edge End reach (risen versions (drop begin rising) (end - 1)) ≡ true)
    (end-from : end < length (drop begin rising) → is_before_edge End reach (risen versions (drop begin rising) end) ≡ false)
    (need : Text) (bounded : IsBounded need reach) where
  abbrev rest : List ℕ
  rest = drop begin rising

  at : (i : ℕ) → get_or rest i 0 ≡ get_or rising (begin + i) 0
  at i = get_or-drop begin rising i 0

  behind : (i : ℕ) → i < length rest → begin + i < length rising
  behind i lt = let n = length-drop begin rising in omega (arith, lt, n)

  rises-behind : Rises versions rest
  rises-behind i j before lt =
      ap (λ n. precedence (version_at versions n) (risen versions rest j)) (at i) ∙ ap (λ n. precedence (risen versions rising (begin + i)) (version_at versions n)) (at j)
      ∙ r.rises (begin + i) (begin + j) (omega arith) (behind j lt)

  ranged : (k : ℕ) → k < length versions → meets_at versions need k ≡ bound.has reach.range (numbers_in (version_at versions k))
  ranged k lt = ap (meets_some need) (slice_get-get_or versions k [] lt) ∙ sym (meets-plain need (version_at versions k) reach bounded known (plain k lt))

  inside : (i : ℕ) → i < end → meets_at versions need (get_or rest i 0) ≡ true
  inside i lt =
      let within = behind i (omega (arith, lt, far)) in
      let k = get_or rest i 0 in
      let small : k < length versions = subst (λ n. n < length versions) (sym (at i)) (r.within (begin + i) within) in
      let after : is_before (numbers_in (version_at versions k)) reach.range.lowest ≡ false =
      ap (λ n. is_before (numbers_in (version_at versions n)) reach.range.lowest) (at i)
      ∙ all-from Begin reach versions rising r.rises begin begin-from (begin + i) (omega arith) within in
      let before : is_within (numbers_in (version_at versions k)) reach.range.end ≡ true = all-before End reach versions rest rises-behind end far end-before i lt in
      ranged k small ∙ ap (λ b. not b && is_within (numbers_in (version_at versions k)) reach.range.end) after ∙ before

  below : (p : ℕ) → p < begin → meets_at versions need (get_or rising p 0) ≡ false
  below p lt =
      let k = get_or rising p 0 in
      ranged k (r.within p (omega (arith, lt, begin-within)))
      ∙ ap (λ b. not b && is_within (numbers_in (version_at versions k)) reach.range.end) (all-before Begin reach versions rising r.rises begin begin-within begin-before p lt)

  above : (i : ℕ) → end ≤ i → i < length rest → meets_at versions need (get_or rest i 0) ≡ false
  above i le lt =
      let k = get_or rest i 0 in
      let small : k < length versions = subst (λ n. n < length versions) (sym (at i)) (r.within (begin + i) (behind i lt)) in
      ranged k small
      ∙ ap (λ b. not (is_before (numbers_in (version_at versions k)) reach.range.lowest) && b) (all-from End reach versions rest rises-behind end end-from i le lt)
      ∙ and-false (not (is_before (numbers_in (version_at versions k)) reach.range.lowest))

  met : (k : ℕ) → has (take end rest) k ≡ true → meets_at versions need k ≡ true
  met k hit =
      let w = witness (λ x. nat_eq x k) 0 (take end rest) hit in
      let lt : w.0 < end = let n = length-take end rest in omega (arith, w.1, n) in
      let is : get_or rest w.0 0 ≡ k = sym (get_or-take end rest w.0 0 lt) ∙ eqb-true _ k w.2 in
      subst (λ n. meets_at versions need n ≡ true) is (inside w.0 lt)

  -- one that meets it stands at a place between the edges
  found : (k p : ℕ) → p < length rising → get_or rising p 0 ≡ k → meets_at versions need k ≡ true → has (take end rest) k ≡ true
  found k p lt is hit = elim (cases_lt p begin) [
    | inl under ↦ absurd (true≢false (sym hit ∙ ap (meets_at versions need) (sym is) ∙ below p under))
    | inr from ↦
        let i = p - begin in
        let place : begin + i ≡ p = omega arith in
        let here : get_or rest i 0 ≡ k = at i ∙ ap (λ n. get_or rising n 0) place ∙ is in
        let within : i < length rest = let n = length-drop begin rising in omega (arith, n, lt) in
        elim (cases_lt i end) [
          | inl before ↦
              let short : i < length (take end rest) = let n = length-take end rest in omega (arith, n, before, far) in
              list_any_at (λ x. nat_eq x k) (take end rest) i 0 short (ap (λ x. nat_eq x k) (get_or-take end rest i 0 before ∙ here) ∙ itself k)
          | inr over ↦ absurd (true≢false (sym hit ∙ ap (meets_at versions need) (sym here) ∙ above i over within))
        ]
  ]

  all-found : (k : ℕ) → meets_at versions need k ≡ true → has (take end rest) k ≡ true
  all-found k hit = elim (cases_lt k (length versions)) [
    | inl lt ↦ let p = place-of versions rising k r lt in found k p.0 p.1 p.2 hit
    | inr past ↦ absurd (true≢false (sym hit ∙ ap (meets_some need) (slice_get_past versions k past)))
  ]

  pub between-matching : (k : ℕ) → has (take end (drop begin rising)) k ≡ meets_at versions need k
  between-matching k = elim (cases_Bool (has (take end rest) k)) [
    | inl hit ↦ hit ∙ sym (met k hit)
    | inr miss ↦ elim (cases_Bool (meets_at versions need k)) [
      | inl meets ↦ absurd (true≢false (sym (all-found k meets) ∙ miss))
      | inr fails ↦ miss ∙ sym fails
    ]
  ]

-- what a slice from a place on is
pub slice-from : (xs : List ℕ) (n : ℕ) → take (length xs - n) (drop n xs) ≡ drop n xs
slice-from xs n = take_all (length xs - n) (drop n xs) (let e = length-drop n xs in omega (arith, e))
