-- Lines whose terms are true with a version behind others.
use Rattle.std.proofs.Common.{◌≡◌, ◌+◌, ◌<◌, ◌∙◌, ℕ, zero, suc, refl, sym, ap, subst, arith, inl, inr, [], ◌∷◌, List, nat_eq, true}
use Rattle.std.proofs.lemmas.Bool.{cases_Bool, cases_eq, eqb-true}
use Rattle.std.proofs.lemmas.Option.{same_Some}
use Rattle.std.specs.Prelude.{IfSome, None, Option, Some, slice_get}
use Rattle.terms.specs.Terms.{true_of}
use Rattle.terms.specs.declared.term.Term.{Term}
use Rattle.registry.specs.Selections.{Choices, with_root}
use Rattle.derivations.specs.Facts.{AllTrue, Terms}
use Rattle.walk.specs.Choosing.{choice_of}
use Rattle.walk.specs.Newest.{Has}
use Rattle.checker.specs.Ruling.{HasWith}

-- ---- what a package has

with_root-other : (s : Choices) (p : ℕ) → (p ≡ 0 → ⊥) → with_root s p ≡ s p
with_root-other s zero apart = absurd (apart refl)
with_root-other s (suc n) apart = refl

module _ (before : List (ℕ × ℕ)) (p j on : ℕ) where
  pub root-with : on ≡ 0 → HasWith before p j on 0
  root-with root t has chosen = ap (with_root t) root

  module _ (apart : on ≡ 0 → ⊥) where
    pub own-with : on ≡ p → HasWith before p j on j
    own-with own t has chosen = with_root-other t on apart ∙ ap t own ∙ chosen

    pub earlier-with : (choice : Option ℕ) → choice_of before on ≡ choice → IfSome choice (HasWith before p j on)
    earlier-with None is = tt
    earlier-with (Some k) is = λ t has chosen. with_root-other t on apart ∙ has on k is

-- ---- terms that are true

-- the first of the terms are true of the choices that have these versions and this one
abbrev pub FirstTrueWith : Terms → List (ℕ × ℕ) → ℕ → ℕ → ℕ → Type 0
FirstTrueWith terms before p j i = (t : Choices) → Has t before → t p ≡ Some j → (n : ℕ) (e : ℕ × Term) → n < i → slice_get terms n ≡ Some e → true_of e.1 (with_root t e.0) ≡ true

pub first_true-more : (terms : Terms) (before : List (ℕ × ℕ)) (p j i : ℕ) (e : ℕ × Term) (k : ℕ) → slice_get terms i ≡ Some e → HasWith before p j e.0 k → true_of e.1 (Some k) ≡ true
    → FirstTrueWith terms before p j i → FirstTrueWith terms before p j (i + 1)
first_true-more terms before p j i e k at own here first t has chosen n f lt there = elim (cases_eq n i) [
  | inl same ↦
      let is : e ≡ f = same_Some e f (sym at ∙ ap (slice_get terms) (sym same) ∙ there) in
      subst (λ (x : ℕ × Term). true_of x.1 (with_root t x.0) ≡ true) is (ap (true_of e.1) (own t has chosen) ∙ here)
  | inr apart ↦ first t has chosen n f (omega (arith, lt, apart)) there
]

pub all-true : (terms : Terms) (s : Choices) → ((n : ℕ) (e : ℕ × Term) → slice_get terms n ≡ Some e → true_of e.1 (s e.0) ≡ true) → AllTrue terms s
all-true [] s each q = refl
all-true (x ∷ rest) s each q = elim (cases_Bool (nat_eq x.0 q)) [
  | inl same ↦ rw same (subst (λ r. true_of x.1 (s r) ≡ true) (eqb-true x.0 q same) (each 0 x refl))
  | inr other ↦ rw other (all-true rest s (λ n. each (suc n)) q)
]
