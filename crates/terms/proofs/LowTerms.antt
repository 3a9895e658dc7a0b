-- When a term is true wherever another is.
use Rattle.std.proofs.Common.{◌≡◌, ◌∙◌, ℕ, List, [], ◌∷◌, refl, sym, ap, Bool, true, false, not, ◌&&◌, true≢false}
use Rattle.std.specs.Prelude.{◌↔◌, IsTrue, None, Some}
use Rattle.terms.specs.Merges.{IsKept}
use Rattle.terms.specs.Sets.{has}
use Rattle.terms.specs.Terms.{Implies}
use Rattle.terms.specs.declared.merging.Rule.TheVariants as rule
use Rattle.terms.specs.declared.term.Term.TheVariants.{In, NotIn}
use Rattle.terms.proofs.Ascending.{nat_eq-itself}

none-in : (set : List ℕ) → ((k : ℕ) → has set k ≡ false) → set ≡ []
none-in [] h = refl
none-in (k ∷ rest) h = absurd (true≢false (sym first ∙ h k))
  where
    first : has (k ∷ rest) k ≡ true
    first = rw (nat_eq-itself k) refl

-- what is kept of no member
has-none : (kept : List ℕ) (k : ℕ) → kept ≡ [] → has kept k ≡ false
has-none kept k none = ap (λ (set : List ℕ). has set k) none

alone-true : (x y : Bool) → (x && not y) ≡ false → x ≡ true → y ≡ true
alone-true true true e h = refl
alone-true true false e h = absurd (true≢false e)
alone-true false y e h = absurd (true≢false (sym h))

alone-false : (x y : Bool) → (x ≡ true → y ≡ true) → (x && not y) ≡ false
alone-false true true f = refl
alone-false true false f = sym (f refl)
alone-false false y f = refl

both-true : (x y : Bool) → (x && y) ≡ false → x ≡ true → not y ≡ true
both-true true true e h = absurd (true≢false e)
both-true true false e h = refl
both-true false y e h = absurd (true≢false (sym h))

both-false : (x y : Bool) → (x ≡ true → not y ≡ true) → (x && y) ≡ false
both-false true true f = sym (f refl)
both-false true false f = refl
both-false false y f = refl

turned-true : (x y : Bool) → (y && not x) ≡ false → not x ≡ true → not y ≡ true
turned-true true y e h = absurd (true≢false (sym h))
turned-true false true e h = absurd (true≢false e)
turned-true false false e h = refl

turned-false : (x y : Bool) → (not x ≡ true → not y ≡ true) → (y && not x) ≡ false
turned-false true true f = refl
turned-false true false f = refl
turned-false false true f = sym (f refl)
turned-false false false f = refl

pub in-in : (a b kept : List ℕ) (none : Bool) → IsKept rule.FirstOnly a b kept → (IsTrue none ↔ (kept ≡ [])) → (IsTrue none ↔ Implies (In a) (In b))
in-in a b kept none is test = (λ yes. to (test.0 yes), λ implies. test.1 (none-in kept (λ k. is k ∙ alone-false (has a k) (has b k) (implies (Some k)))))
  where
    to : kept ≡ [] → Implies (In a) (In b)
    to e None h = absurd (true≢false (sym h))
    to e (Some k) h = alone-true (has a k) (has b k) (sym (is k) ∙ has-none kept k e) h

pub in-not_in : (a b kept : List ℕ) (none : Bool) → IsKept rule.Both a b kept → (IsTrue none ↔ (kept ≡ [])) → (IsTrue none ↔ Implies (In a) (NotIn b))
in-not_in a b kept none is test = (λ yes. to (test.0 yes), λ implies. test.1 (none-in kept (λ k. is k ∙ both-false (has a k) (has b k) (implies (Some k)))))
  where
    to : kept ≡ [] → Implies (In a) (NotIn b)
    to e None h = absurd (true≢false (sym h))
    to e (Some k) h = both-true (has a k) (has b k) (sym (is k) ∙ has-none kept k e) h

pub not_in-in : (a b : List ℕ) → IsTrue false ↔ Implies (NotIn a) (In b)
not_in-in a b = (λ yes. absurd (true≢false (sym yes)), λ implies. implies None refl)

pub not_in-not_in : (a b kept : List ℕ) (none : Bool) → IsKept rule.FirstOnly b a kept → (IsTrue none ↔ (kept ≡ [])) → (IsTrue none ↔ Implies (NotIn a) (NotIn b))
not_in-not_in a b kept none is test = (λ yes. to (test.0 yes), λ implies. test.1 (none-in kept (λ k. is k ∙ turned-false (has a k) (has b k) (implies (Some k)))))
  where
    to : kept ≡ [] → Implies (NotIn a) (NotIn b)
    to e None h = refl
    to e (Some k) h = turned-true (has a k) (has b k) (sym (is k) ∙ has-none kept k e) h
