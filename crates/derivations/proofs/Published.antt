-- What packages publish, read one version at a time.
use Rattle.std.proofs.Common.{◌≡◌, ◌↔◌, ◌<◌, ◌≤◌, ◌∙◌, ◌⊎◌, inl, inr, ℕ, zero, suc, List, [], ◌∷◌, length, refl, sym, ap, subst, arith, Bool, true, false, true≢false, ◌||◌, nat_eq, nat_le, nat_lt, rules}
use Rattle.std.proofs.lemmas.Bool.{cases_Bool, eqb-true, eq-eqb}
use Rattle.std.specs.Prelude.{Option, None, Some, slice_get, is_some, Contains, IsSome, IsTrue}
use Rattle.versions.specs.Words.{Text}
use Rattle.terms.specs.Sets.{has}
use Rattle.terms.specs.declared.term.Term.{Term}
use Rattle.terms.specs.declared.term.Term.TheVariants.{In}
use Rattle.registry.specs.Laws.{UnpublishedFrom}
use Rattle.registry.specs.Registry.{Packages, Publication, meets_at, needs_or_none, package_at, publication_at, publication_meets, versions_or_none}
use Rattle.derivations.specs.Facts.{Covers, DependsOn, HasNeed}
use Rattle.derivations.specs.Lines.{Premise}

-- how many versions of a package are published
abbrev pub count : Packages → ℕ → ℕ
count packages p = length (versions_or_none (package_at packages p))

there : {A : Type 0} (xs : List A) (k : ℕ) → k < length xs → is_some (slice_get xs k) ≡ true
there [] k lt = absurd (omega arith)
there (x ∷ xs) zero lt = refl
there (x ∷ xs) (suc k) lt = there xs k (omega arith)

-- what is not published depends on nothing
pub independent : (packages : Packages) (p k target : ℕ) (need : Text) → publication_at packages p k ≡ None → DependsOn packages p k target need → ⊥
independent packages p k target need none d =
    nothing (d.0, need) (subst (λ (o : Option Publication). Contains (needs_or_none o) (d.0, need)) none d.2)
  where
    nothing : (x : Text × Text) → Contains [] x → ⊥
    nothing x h = omega (arith, h.1)

-- what depends on the target is read from the needs of the publication
pub depends_iff : (packages : Packages) (p k target : ℕ) (need : Text) (publication : Publication) (told : Bool) → publication_at packages p k ≡ Some publication
    → IsTrue told ↔ HasNeed packages publication.needs target need → IsTrue told ↔ DependsOn packages p k target need
depends_iff packages p k target need publication told at e =
    subst (λ (o : Option Publication). IsTrue told ↔ HasNeed packages (needs_or_none o) target need) (sym at) e

-- ---- what covers

-- the ordinals below n that meet the premise's requirement are within the set
abbrev pub CoversBelow : Packages → Premise → ℕ → Type 0
CoversBelow packages premise n = (k : ℕ) → k < n → meets_at packages premise.target k premise.need ≡ true → has premise.within k ≡ true

pub covers_all : UnpublishedFrom → (packages : Packages) (premise : Premise) (n : ℕ) → count packages premise.target ≤ n → CoversBelow packages premise n → Covers packages premise
covers_all unpublished packages premise n le all k met = elim (cases_lt k) [
  | inl lt ↦ all k lt met
  | inr from ↦ absurd (true≢false (sym met ∙ ap (λ (o : Option Publication). publication_meets o premise.need) (unpublished packages premise.target k (omega (arith, le, from)))))
]
  where
    cases_lt : (k : ℕ) → (k < n) ⊎ (n ≤ k)
    cases_lt k = elim (cases_Bool (nat_lt k n)) [
      | inl e ↦ let lt : k < n = search rules in inl lt
      | inr e ↦ let le : n ≤ k = search rules in inr le
    ]

-- ---- packages

inside : {A : Type 0} (xs : List A) (k : ℕ) → is_some (slice_get xs k) ≡ true → k < length xs
inside [] k h = absurd (true≢false (sym h))
inside (x ∷ xs) zero h = omega arith
inside (x ∷ xs) (suc k) h = let less = inside xs k h in omega (arith, less)

-- a package from 1 on is numbered up to the count of packages
pub numbered_iff : (packages : Packages) (p n : ℕ) → 1 ≤ p → n ≡ length packages → IsTrue (nat_le p n) ↔ IsSome (package_at packages p)
unfolding package_at
numbered_iff packages zero n from e = absurd (omega arith)
numbered_iff packages (suc k) n from e = (
  λ t. let le : suc k ≤ n = search rules in there packages k (omega (arith, le, e)),
  λ s. let lt = inside packages k s in let le : suc k ≤ n = omega (arith, lt, e) in search rules,
)

-- no package has the root's number
pub unnumbered_iff : (packages : Packages) (p : ℕ) → p < 1 → IsTrue (nat_le 1 p) ↔ IsSome (package_at packages p)
unfolding package_at
unnumbered_iff packages zero lt = (λ t. absurd (true≢false (sym t)), λ s. absurd (true≢false (sym s)))
unnumbered_iff packages (suc k) lt = absurd (omega arith)

-- ---- the set of 0 alone

or-false : (b : Bool) → (b || false) ≡ b
or-false true = refl
or-false false = refl

only_zero : (set : List ℕ) → has set 0 ≡ true → length set ≡ 1 → set ≡ 0 ∷ []
only_zero [] h e = absurd (true≢false (sym h))
only_zero (x ∷ []) h e = ap (λ k. k ∷ []) (eqb-true x 0 (sym (or-false (nat_eq x 0)) ∙ h))
only_zero (x ∷ y ∷ rest) h e = absurd (omega (arith, e))

pub zero_alone_iff : (term : Term) (set : List ℕ) (n : ℕ) → term ≡ In set → has set 0 ≡ true → n ≡ length set → IsTrue (nat_eq n 1) ↔ (term ≡ In (0 ∷ []))
zero_alone_iff term set n is zero_in e = (
  λ t. is ∙ ap In (only_zero set zero_in (sym e ∙ eqb-true n 1 t)),
  λ same. let sets : set ≡ 0 ∷ [] = cc in eq-eqb n 1 (e ∙ ap length sets),
)
