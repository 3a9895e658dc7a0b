-- Terms stand to assignments in one way.
use Rattle.std.proofs.Common.{◌≡◌, ◌∙◌, ℕ, refl, sym, ap, true≢false, List, inl, inr}
use Rattle.std.proofs.lemmas.Bool.{cases_eq}
use Rattle.terms.specs.declared.term.Term.{Term}
use Rattle.search.specs.declared.assignment.Assignment.{Assignment}
use Rattle.search.specs.declared.satisfaction.Satisfaction.{Satisfaction}
use Rattle.search.specs.declared.satisfaction.Satisfaction.TheVariants as standing
use Rattle.search.specs.Satisfying.{Satisfied, AlmostSatisfied, IsNeither, Stands}

satisfied_not_almost : (made : List Assignment) (terms : List (ℕ × Term)) (out : ℕ) → Satisfied made terms → AlmostSatisfied made terms out → ⊥
satisfied_not_almost made terms out h w = true≢false (sym (h out w.can_be_false.0 w.can_be_false.2) ∙ w.can_be_false.3)

satisfied_not_neither : (made : List Assignment) (terms : List (ℕ × Term)) → Satisfied made terms → IsNeither made terms → ⊥
satisfied_not_neither made terms h n = true≢false (sym (h n.pkg n.choice n.said) ∙ n.false_there)

almost_not_neither : (made : List Assignment) (terms : List (ℕ × Term)) (out : ℕ) → AlmostSatisfied made terms out → IsNeither made terms → ⊥
almost_not_neither made terms out w n = n.not_almost out w.others w.can_be_true.0 w.can_be_true.2 w.can_be_true.3

-- the package that is left is one
same_out : (made : List Assignment) (terms : List (ℕ × Term)) (p q : ℕ) → AlmostSatisfied made terms p → AlmostSatisfied made terms q → p ≡ q
same_out made terms p q v w = elim (cases_eq p q) [
  | inl same ↦ same
  | inr apart ↦ absurd (true≢false (sym (w.others p v.can_be_false.0 apart v.can_be_false.2) ∙ v.can_be_false.3))
]

pub stands-one : (made : List Assignment) (terms : List (ℕ × Term)) (first second : Satisfaction) → Stands made terms first → Stands made terms second → first ≡ second
stands-one made terms standing.Satisfied standing.Satisfied h k = refl
stands-one made terms standing.Satisfied (standing.Almost q) h k = absurd (satisfied_not_almost made terms q h k)
stands-one made terms standing.Satisfied standing.Other h k = absurd (satisfied_not_neither made terms h k)
stands-one made terms (standing.Almost p) standing.Satisfied h k = absurd (satisfied_not_almost made terms p k h)
stands-one made terms (standing.Almost p) (standing.Almost q) h k = ap standing.Almost (same_out made terms p q h k)
stands-one made terms (standing.Almost p) standing.Other h k = absurd (almost_not_neither made terms p h k)
stands-one made terms standing.Other standing.Satisfied h k = absurd (satisfied_not_neither made terms k h)
stands-one made terms standing.Other (standing.Almost q) h k = absurd (almost_not_neither made terms q k h)
stands-one made terms standing.Other standing.Other h k = refl
