-- Ascending lists with the same members are equal, and so are terms that are true of the same choices.
use Rattle.std.proofs.Common.{◌≡◌, ◌<◌, ◌≤◌, ◌∙◌, inl, inr, ℕ, suc, List, [], ◌∷◌, refl, sym, ap, subst, arith, Bool, true, false, not, ◌&&◌, true≢false, rules, nat_eq, nat_lt}
use Rattle.std.specs.Prelude.{Option, Some, None, count_by, filter, length}
use Rattle.std.proofs.lemmas.Bool.{cases_Bool, eqb-true, ne_eqb}
use Rattle.std.proofs.lemmas.List.Sums.{length-filter}
use Rattle.terms.proofs.Ascending.{absent, from_lower, nat_eq-itself}
use Rattle.terms.specs.Merges.{IsWithinFirst, keeps}
use Rattle.terms.specs.Sets.{AscendingFrom, IsAscending, has}
use Rattle.terms.specs.Terms.{true_of, IsTerm}
use Rattle.terms.specs.declared.merging.Rule.{Rule}
use Rattle.terms.specs.declared.merging.Rule.TheVariants as rule
use Rattle.terms.specs.declared.term.Term.{Term}
use Rattle.terms.specs.declared.term.Term.TheVariants.{In, NotIn}

pub has-first : (x : ℕ) (xs : List ℕ) → has (x ∷ xs) x ≡ true
has-first x xs = rw (nat_eq-itself x) refl

has-later : (x k : ℕ) (xs : List ℕ) → x < k → has (x ∷ xs) k ≡ has xs k
has-later x k xs lt = let apart : nat_eq x k ≡ false = ne_eqb x k (λ e. omega (arith, e)) in rw apart refl

-- ascending lists with the same members are the same
pub same_members : (low : ℕ) (a b : List ℕ) → AscendingFrom low a → AscendingFrom low b → ((k : ℕ) → has a k ≡ has b k) → a ≡ b
same_members low [] [] f g h = refl
same_members low [] (y ∷ ys) f g h = absurd (true≢false (sym (has-first y ys) ∙ sym (h y)))
same_members low (x ∷ xs) [] f g h = absurd (true≢false (sym (has-first x xs) ∙ h x))
same_members low (x ∷ xs) (y ∷ ys) f g h =
    elim (cases_Bool (nat_lt x y)) [
      | inl lt ↦
          let below : x < y = search rules in
          let gone : has (y ∷ ys) x ≡ false = absent y x (y ∷ ys) (omega arith, g.1) below in
          absurd (true≢false (sym (has-first x xs) ∙ h x ∙ gone))
      | inr ge ↦ elim (cases_Bool (nat_lt y x)) [
        | inl lt ↦
            let below : y < x = search rules in
            let gone : has (x ∷ xs) y ≡ false = absent x y (x ∷ xs) (omega arith, f.1) below in
            absurd (true≢false (sym (has-first y ys) ∙ sym (h y) ∙ gone))
        | inr le ↦
            let up : y ≤ x = search rules in
            let down : x ≤ y = search rules in
            let same : y ≡ x = omega (arith, up, down) in
            let tail : AscendingFrom (suc x) ys = subst (λ z. AscendingFrom (suc z) ys) same g.1 in
            let rest : (k : ℕ) → has xs k ≡ has ys k = λ k. elim (cases_Bool (nat_lt x k)) [
              | inl lt ↦
                  let above : x < k = search rules in
                  let above' : y < k = omega (arith, above, same) in
                  sym (has-later x k xs above) ∙ h k ∙ has-later y k ys above'
              | inr no_more ↦
                  let le' : k ≤ x = search rules in
                  let under : k < suc x = omega (arith, le') in
                  absent (suc x) k xs f.1 under ∙ sym (absent (suc x) k ys tail under)
            ] in
            ap (λ z. z ∷ xs) (sym same) ∙ ap (λ l. y ∷ l) (same_members (suc x) xs ys f.1 tail rest)
      ]
    ]

not-same : (a b : Bool) → not a ≡ not b → a ≡ b
not-same true true e = refl
not-same true false e = absurd (true≢false (sym e))
not-same false true e = absurd (true≢false e)
not-same false false e = refl

pub same_term : (t u : Term) → IsTerm t → IsTerm u → ((choice : Option ℕ) → true_of t choice ≡ true_of u choice) → t ≡ u
same_term (In a) (In b) f g h = ap (λ s. In s) (same_members 0 a b f g (λ k. h (Some k)))
same_term (In a) (NotIn b) f g h = absurd (true≢false (sym (h None)))
same_term (NotIn a) (In b) f g h = absurd (true≢false (h None))
same_term (NotIn a) (NotIn b) f g h = ap (λ s. NotIn s) (same_members 0 a b f g (λ k. not-same (has a k) (has b k) (h (Some k))))

-- ---- the members that pass a test

pub AscendingFrom-filter : (p : ℕ → Bool) (low : ℕ) (xs : List ℕ) → AscendingFrom low xs → AscendingFrom low (filter p xs)
AscendingFrom-filter p low [] h = tt
AscendingFrom-filter p low (x ∷ xs) h = elim (cases_Bool (p x)) [
  | inl e ↦ rw e (h.0, AscendingFrom-filter p (suc x) xs h.1)
  | inr e ↦ rw e (from_lower low (suc x) (filter p xs) (omega (arith, h.0)) (AscendingFrom-filter p (suc x) xs h.1))
]

and-false : (b : Bool) → (b && false) ≡ false
and-false true = refl
and-false false = refl

pub has-filter : (p : ℕ → Bool) (xs : List ℕ) (k : ℕ) → has (filter p xs) k ≡ (has xs k && p k)
has-filter p [] k = refl
has-filter p (x ∷ xs) k = elim (cases_Bool (nat_eq x k)) [
  | inl e ↦
      let same : x ≡ k = eqb-true x k e in
      elim (cases_Bool (p x)) [
        | inl t ↦ let passes : p k ≡ true = subst (λ y. p y ≡ true) same t in rw (t, e, passes) refl
        | inr f ↦ let fails : p k ≡ false = subst (λ y. p y ≡ false) same f in rw (f, e, fails) (has-filter p xs k ∙ ap (λ b. has xs k && b) fails ∙ and-false (has xs k))
      ]
  | inr e ↦ elim (cases_Bool (p x)) [
    | inl t ↦ rw (t, e) (has-filter p xs k)
    | inr f ↦ rw (f, e) (has-filter p xs k)
  ]
]

keeps-within : (r : Rule) (a b : Bool) → IsWithinFirst r → (a && keeps r true b) ≡ keeps r a b
keeps-within rule.Both a b h = refl
keeps-within rule.Either a b h = absurd h
keeps-within rule.FirstOnly a b h = refl

-- a count of what is kept counts the members of the first set that pass
pub counted-within : (r : Rule) (a b mine theirs : List ℕ) (total : ℕ) → IsWithinFirst r → IsAscending a → a ≡ mine → b ≡ theirs
    → ((set : List ℕ) → IsAscending set → ((k : ℕ) → has set k ≡ keeps r (has a k) (has b k)) → total ≡ length set)
    → total ≡ count_by (λ k. keeps r true (has theirs k)) mine
counted-within r a b mine theirs total within h is_mine is_theirs count =
    count (filter (λ k. keeps r true (has b k)) a) (AscendingFrom-filter (λ k. keeps r true (has b k)) 0 a h)
    (λ k. has-filter (λ k. keeps r true (has b k)) a k ∙ keeps-within r (has a k) (has b k) within)
    ∙ length-filter (λ k. keeps r true (has b k)) a
    ∙ ap (λ l. count_by (λ k. keeps r true (has l k)) a) is_theirs ∙ ap (λ l. count_by (λ k. keeps r true (has theirs k)) l) is_mine
