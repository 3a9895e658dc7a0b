-- What the terms of an incompatibility say of a package.
use Rattle.std.proofs.Common.{◌≡◌, ◌∙◌, ℕ, refl, sym, ap, true, false, true≢false, List, [], ◌∷◌, inl, inr, nat_eq}
use Rattle.std.proofs.lemmas.Bool.{cases_Bool, eq-eqb}
use Rattle.std.proofs.lemmas.Option.{none-some, same_Some}
use Rattle.std.specs.Prelude.{Option, None, Some}
use Rattle.terms.specs.Terms.{true_of, is_in}
use Rattle.terms.specs.Incompats.{has_term, term_on, true_at, IsIncompat}
use Rattle.terms.specs.declared.term.Term.{Term}

-- a term that is there
pub at-term : (terms : List (ℕ × Term)) (p : ℕ) (t : Term) (c : Option ℕ) → term_on terms p ≡ Some t → true_at terms p c ≡ true_of t c
at-term [] p t c h = absurd (none-some t h)
at-term (x ∷ rest) p t c h = elim (cases_Bool (nat_eq x.0 p)) [
  | inl e ↦ let same : x.1 ≡ t = same_Some x.1 t (rw e at h) in rw e (ap (λ u. true_of u c) same)
  | inr e ↦ rw e (at-term rest p t c (rw e at h))
]

-- one that is not there is true of every choice
pub at-none : (terms : List (ℕ × Term)) (p : ℕ) (c : Option ℕ) → term_on terms p ≡ None → true_at terms p c ≡ true
at-none [] p c h = refl
at-none (x ∷ rest) p c h = elim (cases_Bool (nat_eq x.0 p)) [
  | inl e ↦ absurd (none-some x.1 (sym (rw e at h)))
  | inr e ↦ rw e (at-none rest p c (rw e at h))
]

-- one that can be false is there
pub has_from_false : (terms : List (ℕ × Term)) (p : ℕ) (c : Option ℕ) → true_at terms p c ≡ false → has_term terms p ≡ true
has_from_false [] p c h = absurd (true≢false h)
has_from_false (x ∷ rest) p c h = elim (cases_Bool (nat_eq x.0 p)) [
  | inl e ↦ rw e refl
  | inr e ↦ rw e (has_from_false rest p c (rw e at h))
]

-- an incompatibility that is true of all choices has no terms
pub all_true_empty : (terms : List (ℕ × Term)) → IsIncompat terms → ((p : ℕ) (c : Option ℕ) → true_at terms p c ≡ true) → terms ≡ []
all_true_empty [] h all = refl
all_true_empty (t ∷ rest) h all =
    let out = h.1 in
    let yes : true_of t.1 out.0 ≡ true = rw (eq-eqb t.0 t.0 refl) at (all t.0 out.0) in
    absurd (true≢false (sym yes ∙ out.1))

-- nothing is in the empty set
pub in_none : (c : Option ℕ) → is_in [] c ≡ false
in_none None = refl
in_none (Some k) = refl
