-- Names, numbers and packages.
use Rattle.std.proofs.Common.{◌≡◌, ◌≢◌, ◌<◌, ◌+◌, ◌∙◌, ℕ, zero, suc, List, [], ◌∷◌, length, get_or, refl, sym, ap, subst, arith, true, true≢false, inl, inr}
use Rattle.std.proofs.lemmas.Bool.{cases_Bool, or_left, or_right}
use Rattle.std.proofs.lemmas.Option.{none-some, same_Some}
use Rattle.std.specs.Prelude.{Option, None, Some, slice_get, IsSome, is_some, Contains}
use Rattle.std.specs.Str.{bytes_eq}
use Rattle.std.specs.Cmp.Lexicographic.{nat_list_eq_equiv}
use Rattle.versions.specs.Words.{Text}
use Rattle.registry.specs.Lawful.{IsRegistry}
use Rattle.registry.specs.Needs.{has_name}
use Rattle.registry.specs.Registry.{Package, Packages, Publication, is_named, needs_of, needs_or_none, number_from, number_of, package_at, publication_at}
use Rattle.registry.specs.Laws.{NeedsAreNumbered, PublicationsAreLawful}
use Rattle.registry.specs.Selections.{Choices, IsReached, along, needed}

named-at : (n : ℕ) (packages : Packages) (name : Text) (q : ℕ) → number_from n packages name ≡ Some q → (i : ℕ) × (q ≡ n + i) × ((pack : Package) × (slice_get packages i ≡ Some pack) × (is_named name pack ≡ true))
named-at n [] name q e = absurd (none-some q e)
named-at n (p ∷ rest) name q e = elim (cases_Bool (is_named name p)) [
  | inl t ↦ (0, omega (arith, same_Some n q (rw t at e)), (p, refl, t))
  | inr f ↦
      let more = named-at (suc n) rest name q (rw f at e) in
      (suc more.0, omega (arith, more.1), (more.2.0, more.2.1, more.2.2))
]

-- the package of this number has this name
pub number_of-package : (packages : Packages) (name : Text) (q : ℕ) → number_of packages name ≡ Some q → (pack : Package) × (package_at packages q ≡ Some pack) × (is_named name pack ≡ true)
unfolding number_of package_at
number_of-package packages name zero e = let found = named-at 1 packages name zero e in absurd (omega (arith, found.1))
number_of-package packages name (suc n) e =
    let found = named-at 1 packages name (suc n) e in
    let place : found.0 ≡ n = omega (arith, found.1) in
    (found.2.0, subst (λ i. slice_get packages i ≡ Some found.2.0) place found.2.1, found.2.2)

-- a package that has a name is numbered
pub number_of-numbered : (packages : Packages) (name : Text) (q : ℕ) → number_of packages name ≡ Some q → IsSome (package_at packages q)
number_of-numbered packages name q e = ap is_some (number_of-package packages name q e).1

-- what is reached is numbered
pub reached-numbered : (packages : Packages) (needs : List (Text × Text)) (s : Choices) (p : ℕ) → IsReached packages needs s p → IsSome (package_at packages p)
reached-numbered packages needs s _ (needed p name need among numbered) = number_of-numbered packages name p numbered
reached-numbered packages needs s _ (along from k to name need before chosen among numbered) = number_of-numbered packages name to numbered

-- ---- dependencies

has-at : (needs : List (Text × Text)) (i : ℕ) (d e : Text × Text) (name : Text) → i < length needs → get_or needs i e ≡ d → bytes_eq name d.0 ≡ true → has_name needs name ≡ true
has-at [] i d e name lt at same = absurd (omega arith)
has-at (x ∷ rest) zero d e name lt at same = or_left (bytes_eq name x.0) (has_name rest name) (ap (λ (y : Text × Text). bytes_eq name y.0) at ∙ same)
has-at (x ∷ rest) (suc i) d e name lt at same = or_right (bytes_eq name x.0) (has_name rest name) (has-at rest i d e name (omega arith) at same)

published_with : (packages : Packages) (p k : ℕ) (d : Text × Text) → Contains (needs_of packages p k) d → (v : Publication) × (publication_at packages p k ≡ Some v) × Contains v.needs d
published_with packages p k d among = by (publication_at packages p k) refl among
  where
    by : (o : Option Publication) → publication_at packages p k ≡ o → Contains (needs_or_none o) d → (v : Publication) × (publication_at packages p k ≡ Some v) × Contains v.needs d
    by None at within = absurd (omega (arith, within.1))
    by (Some v) at within = (v, at, within)

-- a dependency's name is numbered
pub dependency_numbered : NeedsAreNumbered → (packages : Packages) (p k : ℕ) (d : Text × Text) → IsRegistry packages → Contains (needs_of packages p k) d → (q : ℕ) × (number_of packages d.0 ≡ Some q)
dependency_numbered numbers packages p k d lawful among =
    let found = published_with packages p k d among in
    numbers packages p k found.0 d lawful found.1 found.2

-- and its number is not the package's own
pub dependency_apart : PublicationsAreLawful → (packages : Packages) (p k q : ℕ) (d : Text × Text) → IsRegistry packages → Contains (needs_of packages p k) d → number_of packages d.0 ≡ Some q → p ≢ q
dependency_apart laws packages p k q d lawful among numbered same =
    let found = published_with packages p k d among in
    let own = laws packages p k found.0 lawful found.1 in
    let named = number_of-package packages d.0 q numbered in
    let pack_is : named.0 ≡ own.0 = same_Some named.0 own.0 (sym named.1 ∙ ap (package_at packages) (sym same) ∙ own.1) in
    let called : bytes_eq own.0.name d.0 ≡ true = nat_list_eq_equiv.symm own.0.name d.0 ∙ ap (λ (x : Package). bytes_eq d.0 x.name) (sym pack_is) ∙ named.2 in
    true≢false (sym (has-at found.0.needs found.2.0 d d own.0.name found.2.1 found.2.2 called) ∙ own.2.others)
