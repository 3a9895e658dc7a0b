-- Choices of all packages that make assignments true.
use Rattle.std.proofs.Common.{◌≡◌, ◌≤◌, ◌∙◌, ℕ, suc, refl, sym, ap, subst, arith, true, List, [], ◌∷◌, ◌++◌, take, inl, inr, nat_eq, if◌then◌else◌}
use Rattle.std.proofs.lemmas.Bool.{cases_Bool, cases_eq, and_parts, eqb-true, eq-eqb, ne_eqb}
use Rattle.std.specs.Prelude.{Option, Some, slice_get, ◌↔◌}
use Rattle.terms.specs.Terms.{true_of}
use Rattle.terms.specs.Incompats.{true_at}
use Rattle.terms.specs.declared.term.Term.{Term}
use Rattle.search.specs.declared.assignment.Assignment.{Assignment}
use Rattle.search.specs.Assignments.{says, LeavesChoices}
use Rattle.search.specs.Satisfying.{Satisfied, SatisfiedByAll, MakesTrue}
use Rattle.search.proofs.Saying.{says-push_own, says-push_other, says-shorter, says-take}
use Rattle.search.proofs.Reaching.{next}

says-made_true : (choices : ℕ → Option ℕ) (made : List Assignment) → MakesTrue choices made → (p : ℕ) → says made p (choices p) ≡ true
says-made_true choices [] h p = refl
says-made_true choices (a ∷ made) h p = elim (cases_Bool (nat_eq a.pkg p)) [
  | inl e ↦
      let here : true_of a.term (choices p) ≡ true = subst (λ q. true_of a.term (choices q) ≡ true) (eqb-true a.pkg p e) h.0 in
      rw (e, here) (says-made_true choices made h.1 p)
  | inr f ↦ rw f (says-made_true choices made h.1 p)
]

made_true : (choices : ℕ → Option ℕ) (made : List Assignment) → ((p : ℕ) → says made p (choices p) ≡ true) → MakesTrue choices made
made_true choices [] h = tt
made_true choices (a ∷ made) h = (
  (let own : nat_eq a.pkg a.pkg ≡ true = eq-eqb a.pkg a.pkg refl in
      rw own at (and_parts (if nat_eq a.pkg a.pkg then true_of a.term (choices a.pkg) else true) (says made a.pkg (choices a.pkg)) (h a.pkg)).0),
  made_true choices made (λ p. (and_parts (if nat_eq a.pkg p then true_of a.term (choices p) else true) (says made p (choices p)) (h p)).1),
)

-- the choices of others, with one package's choice in its place
chosen_at : (ℕ → Option ℕ) → ℕ → Option ℕ → ℕ → Option ℕ
chosen_at others p c q = if nat_eq q p then c else others q

pub each_choice : (made : List Assignment) (terms : List (ℕ × Term)) → LeavesChoices made → Satisfied made terms ↔ SatisfiedByAll made terms
unfolding chosen_at
each_choice made terms possible = (
  λ sat choices h p. sat p (choices p) (says-made_true choices made h p),
  λ all p c said.
      let others : ℕ → Option ℕ = λ q. (possible q).0 in
      let here : chosen_at others p c p ≡ c = rw (eq-eqb p p refl) refl in
      sym (ap (true_at terms p) here) ∙ all (chosen_at others p c) (made_true (chosen_at others p c) made (λ q. elim (cases_eq q p) [
        | inl same ↦ subst (λ r. says made q r ≡ true) (sym (rw (eq-eqb q p same) refl)) (subst (λ r. says made r c ≡ true) (sym same) said)
        | inr apart ↦ subst (λ r. says made q r ≡ true) (sym (rw (ne_eqb q p apart) refl)) (possible q).1
      ])) p,
)

pub beginnings : (made : List Assignment) → LeavesChoices made → (k : ℕ) → LeavesChoices (take k made) × ((i : ℕ) (a : Assignment) → k ≤ i → slice_get made i ≡ Some a → LeavesChoices (take k made ++ a ∷ []))
beginnings made possible k = (
  λ p. ((possible p).0, says-take k made p (possible p).0 (possible p).1),
  λ i a le at p.
      let c = (possible p).0 in
      let all : says (take (suc i) made) p c ≡ true = says-take (suc i) made p c (possible p).1 in
      let before : says (take k made) p c ≡ true = says-shorter k (suc i) made p c (omega (arith, le)) all in (
        c,
        elim (cases_eq a.pkg p) [
          | inl same ↦
              let with_it : says (take i made ++ a ∷ []) p c ≡ true = ap (λ xs. says xs p c) (sym (next made i a at)) ∙ all in
              let parts = and_parts (says (take i made) p c) (true_of a.term c) (sym (says-push_own (take i made) a p c same) ∙ with_it) in
              says-push_own (take k made) a p c same ∙ rw (before, parts.1) refl
          | inr apart ↦ says-push_other (take k made) a p c apart ∙ before
        ],
      ),
)
