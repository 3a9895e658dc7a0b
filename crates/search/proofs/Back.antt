-- Conflict resolution: what stands before a satisfier, and where it stops.
use Rattle.std.proofs.Common.{◌≡◌, ◌<◌, ◌≤◌, ◌+◌, ◌∙◌, ℕ, zero, suc, refl, sym, ap, subst, arith, true, not, ◌||◌, List, [], ◌∷◌, take, inl, inr}
use Rattle.std.proofs.lemmas.Bool.{cases_Bool, cases_eq, or_left, or_right, ne_eqb, eq-eqb}
use Rattle.std.proofs.lemmas.List.{append-nil, length-take-le}
use Rattle.std.proofs.lemmas.Option.{slice_get_within}
use Rattle.std.specs.Prelude.{Option, None, Some, slice_get}
use Rattle.terms.specs.Terms.{true_of}
use Rattle.terms.specs.Incompats.{true_at, Follows, IsIncompat}
use Rattle.terms.specs.declared.term.Term.{Term}
use Rattle.search.specs.declared.assignment.Assignment.{Assignment}
use Rattle.search.specs.Assignments.{says, one_if, is_decision, decisions, IsPartial}
use Rattle.search.specs.Satisfying.{Satisfied, SatisfiedBut, IsSatisfier}
use Rattle.facts.specs.Lines.{root_terms}
use Rattle.search.specs.Searching.{BeginsWithRoot}
use Rattle.facts.proofs.Lists.{next}
use Rattle.search.proofs.Saying.{says-shorter, says-push_own, says-push_other, level_at_place, decisions-take}
use Rattle.facts.proofs.TermLemmas.{all_true_empty}

-- what follows from the terms and the satisfier's cause is satisfied before the satisfier
pub prior_before : (made : List Assignment) (i : ℕ) (a : Assignment) (c k r : List (ℕ × Term)) → slice_get made i ≡ Some a
    → Satisfied (take (i + 1) made) c
    → ((choice : Option ℕ) → true_at k a.pkg choice ≡ not (true_of a.term choice)) → SatisfiedBut (take i made) k a.pkg
    → Follows r c k a.pkg → Satisfied (take i made) r
prior_before made i a c k r at sat negation others follows p d said = elim (cases_eq p a.pkg) [
  | inl same ↦
      follows p d ∙ rw (eq-eqb p a.pkg same) (elim (cases_Bool (true_of a.term d)) [
        | inl t ↦
            let with_it : says (take (i + 1) made) p d ≡ true = ap (λ xs. says xs p d) (next made i a at) ∙ says-push_own (take i made) a p d (sym same) ∙ rw (said, t) refl in
            or_left (true_at c p d) (true_at k p d) (sat p d with_it)
        | inr f ↦ or_right (true_at c p d) (true_at k p d) (ap (λ q. true_at k q d) same ∙ negation d ∙ rw f refl)
      ])
  | inr apart ↦
      let with_it : says (take (i + 1) made) p d ≡ true = ap (λ xs. says xs p d) (next made i a at) ∙ says-push_other (take i made) a p d (λ e. apart (sym e)) ∙ said in
      follows p d ∙ rw (ne_eqb p a.pkg apart, sat p d with_it, others p d apart said) refl
]

-- the satisfier is enough, with what came before it
pub so_far : (made : List Assignment) (terms : List (ℕ × Term)) (index level : ℕ) → IsSatisfier made terms index level → Satisfied (take (index + 1) made) terms
so_far made terms index level found p c said = found.shortest.satisfied p c (subst (λ xs. says xs p c ≡ true) (sym (append-nil (take (index + 1) made))) said)

-- a decision behind the root's opens a level above the previous one
pub decision_above : (made : List Assignment) (terms : List (ℕ × Term)) (index level : ℕ) (a : Assignment) → IsPartial made → BeginsWithRoot made → IsSatisfier made terms index level
    → slice_get made index ≡ Some a → 2 ≤ index → is_decision a ≡ true → level < a.level
decision_above made terms index level a h begins found at behind decided =
    let is_level = level_at_place 0 index made a h.levels at in
    let one : one_if (is_decision a) ≡ 1 = ap one_if decided in
    let le : found.count ≤ index = omega (arith, found.previous.within, length-take-le index made (omega (arith, slice_get_within made index a at))) in
    let previous : decisions (take found.count (take index made)) ≤ decisions (take index made) = fewer found.count (take index made) in
    omega (arith, is_level, one, found.level_is, begins.opened, decisions-take 2 index made behind, decisions-take found.count index made le)
  where
    fewer : (n : ℕ) (xs : List Assignment) → decisions (take n xs) ≤ decisions xs
    fewer zero xs = omega arith
    fewer (suc n) [] = omega arith
    fewer (suc n) (x ∷ xs) = omega (arith, fewer n xs)

-- where the satisfier is one of the root's, resolving with the root's fact leaves no terms
pub root_only : (made : List Assignment) (c k r : List (ℕ × Term)) (index level : ℕ) → BeginsWithRoot made → IsSatisfier made c index level → index < 2 → k ≡ root_terms → IsIncompat r
    → Follows r c k 0 → r ≡ []
root_only made c k r index level begins found early is lawful follows = all_true_empty r lawful all_true
  where
    at_two : Satisfied (take 2 made) c
    at_two p d said = so_far made c index level found p d (says-shorter (index + 1) 2 made p d (omega arith) said)

    root : (p : ℕ) (d : Option ℕ) → true_at k p d ≡ true_at root_terms p d
    root p d = ap (λ terms. true_at terms p d) is

    at_root : (d : Option ℕ) → (true_at c 0 d || true_at k 0 d) ≡ true
    at_root None = or_right (true_at c 0 None) (true_at k 0 None) (root 0 None)
    at_root (Some zero) = or_left (true_at c 0 (Some 0)) (true_at k 0 (Some 0)) (at_two 0 (Some 0) begins.chosen)
    at_root (Some (suc n)) = or_right (true_at c 0 (Some (suc n))) (true_at k 0 (Some (suc n))) (root 0 (Some (suc n)) ∙ rw (ne_eqb 0 (suc n) (λ e. omega (arith, e))) refl)

    all_true : (p : ℕ) (d : Option ℕ) → true_at r p d ≡ true
    all_true p d = elim (cases_eq p 0) [
      | inl same ↦ follows p d ∙ rw same (at_root d)
      | inr apart ↦ follows p d ∙ rw (ne_eqb p 0 apart, at_two p d (begins.alone p d apart), root p d, ne_eqb 0 p (λ e. apart (sym e))) refl
    ]
