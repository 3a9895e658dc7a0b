-- The packages that are still to be decided.
use Rattle.std.proofs.Common.{◌≡◌, ◌<◌, ◌≤◌, ◌+◌, ◌∙◌, ℕ, zero, suc, refl, sym, ap, arith, Bool, true, false, true≢false, not, ◌&&◌, ◌||◌, List, [], ◌∷◌, ◌++◌, length, length-append, get_or, inl, inr, nat_eq}
use Rattle.std.proofs.lemmas.Bool.{cases_Bool, cases_eq, cases_lt, eq-eqb, ne_eqb}
use Rattle.std.proofs.lemmas.List.Folds.{list_any-append}
use Rattle.std.proofs.lemmas.Option.{slice_get_past}
use Rattle.std.specs.Prelude.{Option, None, Some, is_some, slice_get}
use Rattle.std.specs.Option.{option_flatten}
use Rattle.std.specs.List.Sorted.{IsStrictlyIncreasing}
use Rattle.terms.specs.Sets.{has}
use Rattle.terms.specs.Terms.{true_of}
use Rattle.terms.specs.declared.term.Term.{Term}
use Rattle.search.specs.declared.assignment.Assignment.{Assignment}
use Rattle.search.specs.declared.trail.Note.{Note}
use Rattle.search.specs.Assignments.{says, decided, is_decided, is_undecided, has_positive_derivation}
use Rattle.search.specs.Trail.{IsNoted}
use Rattle.search.proofs.Decided.{positive-says}
use Rattle.search.proofs.Places.{says-nothing}

undecided-parts : (x y : Bool) → (x && not y) ≡ true → (x ≡ true) × (y ≡ false)
undecided-parts true false h = (refl, refl)
undecided-parts true true h = absurd (true≢false (sym h))
undecided-parts false y h = absurd (true≢false (sym h))

-- an undecided package is selected, whatever is chosen
pub undecided-selected : (made : List Assignment) (p : ℕ) → is_undecided made p ≡ true → says made p None ≡ false
undecided-selected made p h =
    let parts = undecided-parts (has_positive_derivation made p) (is_decided made p) h in
    not_true (says made p None) (sym (positive-says made p parts.1) ∙ parts.0)
  where
    not_true : (b : Bool) → not b ≡ true → b ≡ false
    not_true true e = absurd (true≢false (sym e))
    not_true false e = refl

-- to be undecided is to be selected and not decided
undecided-is : (made : List Assignment) (p : ℕ) → is_undecided made p ≡ (not (is_decided made p) && not (says made p None))
undecided-is made p = by (has_positive_derivation made p) (is_decided made p) (not (says made p None)) (positive-says made p)
  where
    by : (x y z : Bool) → (y ≡ false → x ≡ z) → (x && not y) ≡ (not y && z)
    by true true z h = refl
    by false true z h = refl
    by true false z h = h refl
    by false false z h = h refl

-- as one look at the package tells
pub undecided-not : (made : List Assignment) (p k : ℕ) (d : Option ℕ) → d ≡ decided made p → d ≡ Some k → false ≡ is_undecided made p
undecided-not made p k d is some = sym (undecided-is made p ∙ ap (λ b. not b && not (says made p None)) (ap is_some (sym is ∙ some)))

pub undecided-if : (made : List Assignment) (p : ℕ) (d : Option ℕ) (said : Term) (b : Bool) → d ≡ decided made p → d ≡ None → ((c : Option ℕ) → true_of said c ≡ says made p c) → b ≡ not (true_of said None) → b ≡ is_undecided made p
undecided-if made p d said b is none is_said is_b =
    is_b ∙ ap not (is_said None) ∙ sym (undecided-is made p ∙ ap (λ x. not x && not (says made p None)) (ap is_some (sym is ∙ none)))

-- ---- one number after the other

-- what was found among the numbers below one of them
pub record AreFoundBelow (made : List Assignment) (found : List ℕ) (index : ℕ) : Type 0 where
  pub exactly : (p : ℕ) → p < index → has found p ≡ is_undecided made p
  pub none : (p : ℕ) → index ≤ p → has found p ≡ false
  pub below : (k : ℕ) → k < length found → get_or found k 0 < index
  pub rising : IsStrictlyIncreasing found

pub found-nothing : (made : List Assignment) → AreFoundBelow made [] 0
found-nothing made = record {
  exactly = λ p lt. absurd (omega (arith, lt));
  none = λ p le. refl;
  below = λ k lt. absurd (omega (arith, lt));
  rising = λ k lt. absurd (omega (arith, lt));
}

get-before : (xs : List ℕ) (y k : ℕ) → k < length xs → get_or (xs ++ y ∷ []) k 0 ≡ get_or xs k 0
get-before [] y k lt = absurd (omega (arith, lt))
get-before (x ∷ xs) y zero lt = refl
get-before (x ∷ xs) y (suc k) lt = get-before xs y k (omega (arith, lt))

get-end : (xs : List ℕ) (y k : ℕ) → k ≡ length xs → get_or (xs ++ y ∷ []) k 0 ≡ y
get-end [] y zero e = refl
get-end [] y (suc k) e = absurd (omega (arith, e))
get-end (x ∷ xs) y zero e = absurd (omega (arith, e))
get-end (x ∷ xs) y (suc k) e = get-end xs y k (omega (arith, e))

or_false : (b : Bool) → (b || false) ≡ b
or_false true = refl
or_false false = refl

has-push : (xs : List ℕ) (y p : ℕ) → has (xs ++ y ∷ []) p ≡ (has xs p || nat_eq y p)
has-push xs y p = list_any-append (λ x. nat_eq x p) xs (y ∷ []) ∙ ap (λ b. has xs p || b) (or_false (nat_eq y p))

module _ (made : List Assignment) (found : List ℕ) (index : ℕ) (m : AreFoundBelow made found index) where
  -- one that is not to be decided is passed over
  pub found-over : false ≡ is_undecided made index → AreFoundBelow made found (index + 1)
  found-over e = record {
    exactly = λ p lt. elim (cases_eq p index) [
      | inl same ↦ m.none p (omega (arith, same)) ∙ e ∙ ap (is_undecided made) (sym same)
      | inr apart ↦ m.exactly p (omega (arith, lt, apart))
    ];
    none = λ p le. m.none p (omega (arith, le));
    below = λ k lt. let b = m.below k lt in omega (arith, b);
    rising = m.rising;
  }

  -- one that is stands behind the others
  pub found-one : true ≡ is_undecided made index → AreFoundBelow made (found ++ index ∷ []) (index + 1)
  found-one e = record {
    exactly = λ p lt. elim (cases_eq p index) [
      | inl same ↦
          has-push found index p ∙ ap (λ b. b || nat_eq index p) (m.none p (omega (arith, same))) ∙ eq-eqb index p (sym same) ∙ e ∙ ap (is_undecided made) (sym same)
      | inr apart ↦
          has-push found index p ∙ ap (λ b. has found p || b) (ne_eqb index p (λ e. apart (sym e))) ∙ or_false (has found p) ∙ m.exactly p (omega (arith, lt, apart))
    ];
    none = λ p le.
        has-push found index p ∙ ap (λ b. has found p || b) (ne_eqb index p (λ e. omega (arith, le, e))) ∙ or_false (has found p) ∙ m.none p (omega (arith, le));
    below = λ k lt. elim (cases_lt k (length found)) [
      | inl before ↦ let b = m.below k before in omega (arith, b, get-before found index k before)
      | inr end ↦ omega (arith, get-end found index k (omega (arith, lt, end, length-append found (index ∷ []))))
    ];
    rising = λ k lt. elim (cases_lt (k + 1) (length found)) [
      | inl before ↦
          let r = m.rising k before in
          omega (arith, r, get-before found index k (omega (arith, before)), get-before found index (k + 1) before)
      | inr end ↦
          let last : k < length found = omega (arith, lt, length-append found (index ∷ [])) in
          let b = m.below k last in
          omega (arith, b, get-before found index k last, get-end found index (k + 1) (omega (arith, last, end)))
    ];
  }

-- where all heads were looked at, these are all
pub found-all : (made : List Assignment) (notes : List Note) (heads : List (Option ℕ)) (found : List ℕ) (index : ℕ) → IsNoted made notes (λ p. slice_get heads p)
    → AreFoundBelow made found index → length heads ≤ index → (p : ℕ) → has found p ≡ is_undecided made p
found-all made notes heads found index noted m le p = elim (cases_lt p index) [
  | inl lt ↦ m.exactly p lt
  | inr ge ↦ elim (cases_Bool (is_undecided made p)) [
    | inl t ↦
        let nothing = says-nothing made p None (sym (noted.last p) ∙ ap option_flatten (slice_get_past heads p (omega (arith, ge, le)))) in
        absurd (true≢false (sym nothing ∙ undecided-selected made p t))
    | inr f ↦ m.none p ge ∙ sym f
  ]
]
