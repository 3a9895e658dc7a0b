-- Selections: finitely many packages, each with one version.
use Rattle.std.specs.Prelude.{◌≡◌, ℕ, suc, zero, true, List, Option, Some, Contains}
use Rattle.versions.specs.Words.{Text}
use Rattle.registry.specs.Registry.{Packages, is_published, meets_at, needs_of, number_of}
use Rattle.registry.specs.Requests.{Wanted, is_allowed}

-- what is chosen of each package: an ordinal or none
abbrev pub Choices : Type 0
Choices = ℕ → Option ℕ

-- each choice is a published ordinal; so finitely many packages are selected, all from 1 on
abbrev pub IsSelection : Packages → Choices → Type 0
IsSelection packages s = (p k : ℕ) → s p ≡ Some k → is_published packages p k ≡ true

-- the package of this name is selected with a version that meets the requirement
pub record IsMet (packages : Packages) (s : Choices) (name need : Text) : Type 0 where
  pub target : ℕ
  pub ordinal : ℕ
  pub numbered : number_of packages name ≡ Some target
  pub selected : s target ≡ Some ordinal
  pub meeting : meets_at packages target ordinal need ≡ true

-- for each selected version, each of its dependencies is met
abbrev pub IsClosed : Packages → Choices → Type 0
IsClosed packages s = (p k : ℕ) (name need : Text) → s p ≡ Some k → Contains (needs_of packages p k) (name, need) → IsMet packages s name need

-- the package is reached from the needs along dependencies of chosen versions
pub data IsReached (packages : Packages) (needs : List (Text × Text)) (s : Choices) : ℕ → Type 0 where
  needed : (p : ℕ) (name need : Text) → Contains needs (name, need) → number_of packages name ≡ Some p → IsReached packages needs s p
  along : (from k to : ℕ) (name need : Text) → IsReached packages needs s from → s from ≡ Some k
      → Contains (needs_of packages from k) (name, need) → number_of packages name ≡ Some to → IsReached packages needs s to

-- a selection meets a request
pub record Meets (packages : Packages) (wanted : Wanted) (s : Choices) : Type 0 where
  pub selection : IsSelection packages s
  pub closed : IsClosed packages s
  pub allowed : (p k : ℕ) → s p ≡ Some k → is_allowed packages wanted p k ≡ true
  pub needs : (name need : Text) → Contains wanted.needs (name, need) → IsMet packages s name need
  pub reached : (p k : ℕ) → s p ≡ Some k → IsReached packages wanted.needs s p

-- the choices with the root's, which is always 0
abbrev pub with_root : Choices → Choices
with_root s zero = Some 0
with_root s (suc n) = s (suc n)
