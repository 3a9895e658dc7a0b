-- The versions of a package that have a dependency, found one at a time.
use Rattle.std.proofs.Common.{Bool, ◌≡◌, ◌↔◌, ◌<◌, ◌≤◌, ◌+◌, ◌∙◌, inl, inr, ℕ, List, [], length, sym, subst, arith, nat_eq}
use Rattle.std.proofs.lemmas.Bool.{cases_eq, cases_lt, eqb-true, eq-eqb, or_cases, or_left, or_right}
use Rattle.std.specs.Prelude.{Option, Contains, IsTrue}
use Rattle.versions.specs.Words.{Text}
use Rattle.terms.specs.Sets.{has, AddsOrdinal}
use Rattle.registry.specs.Laws.{UnpublishedFrom}
use Rattle.registry.specs.Registry.{Packages, Publication, needs_of, needs_or_none, package_at, versions_or_none}

-- how many versions of a package are published
abbrev pub count : Packages → ℕ → ℕ
count packages p = length (versions_or_none (package_at packages p))

-- the set has, of the ordinals below n, those whose versions have the dependency
abbrev pub HaveBelow : Packages → ℕ → Text × Text → List ℕ → ℕ → Type 0
HaveBelow packages p entry set n = (k : ℕ) → IsTrue (has set k) ↔ ((k < n) × Contains (needs_of packages p k) entry)

-- one version more, which has it or not
pub have_more : (packages : Packages) (p : ℕ) (entry : Text × Text) (old new : List ℕ) (n : ℕ) → HaveBelow packages p entry old n → AddsOrdinal old new n → Contains (needs_of packages p n) entry
    → HaveBelow packages p entry new (n + 1)
have_more packages p entry old new n h adds here k = (
  λ yes_k. elim (or_cases (has old k) (nat_eq n k) (sym (adds k) ∙ yes_k)) [
    | inl before ↦ let b = (h k).0 before in (omega (arith, b.0), b.1)
    | inr same ↦ let e : n ≡ k = eqb-true n k same in (omega (arith, e), subst (λ j. Contains (needs_of packages p j) entry) e here)
  ],
  λ both. elim (cases_eq n k) [
    | inl same ↦ adds k ∙ or_right (has old k) (nat_eq n k) (eq-eqb n k same)
    | inr apart ↦ adds k ∙ or_left (has old k) (nat_eq n k) ((h k).1 (omega (arith, both.0, apart), both.1))
  ],
)

pub have_same : (packages : Packages) (p : ℕ) (entry : Text × Text) (set : List ℕ) (n : ℕ) → HaveBelow packages p entry set n → (Contains (needs_of packages p n) entry → ⊥) → HaveBelow packages p entry set (n + 1)
have_same packages p entry set n h off k = (
  λ yes_k. let b = (h k).0 yes_k in (omega (arith, b.0), b.1),
  λ both. elim (cases_eq n k) [
    | inl same ↦ absurd (off (subst (λ j. Contains (needs_of packages p j) entry) (sym same) both.1))
    | inr apart ↦ (h k).1 (omega (arith, both.0, apart), both.1)
  ],
)

-- what is known of one version is known of the one before the next
pub one_last : (packages : Packages) (p : ℕ) (entry : Text × Text) (b : Bool) (n : ℕ) → (IsTrue b ↔ Contains (needs_of packages p n) entry)
    → (k : ℕ) → k + 1 ≡ n + 1 → IsTrue b ↔ Contains (needs_of packages p k) entry
one_last packages p entry b n h k e =
    let same : n ≡ k = omega (arith, e) in
    subst (λ j. IsTrue b ↔ Contains (needs_of packages p j) entry) same h

nothing : (x : Text × Text) → Contains [] x → ⊥
nothing x h = omega (arith, h.1)

pub have_all : UnpublishedFrom → (packages : Packages) (p : ℕ) (entry : Text × Text) (set : List ℕ) (n : ℕ) → count packages p ≤ n → HaveBelow packages p entry set n
    → (k : ℕ) → IsTrue (has set k) ↔ Contains (needs_of packages p k) entry
have_all unpublished packages p entry set n le h k = (
  λ yes_k. ((h k).0 yes_k).1,
  λ has_it. elim (cases_lt k n) [
    | inl lt ↦ (h k).1 (lt, has_it)
    | inr from ↦ absurd (nothing entry (subst (λ (o : Option Publication). Contains (needs_or_none o) entry) (unpublished packages p k (omega arith)) has_it))
  ],
)
