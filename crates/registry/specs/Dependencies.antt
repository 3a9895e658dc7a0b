-- What a version depends on, by number and by ordinals.
use Rattle.std.specs.Prelude.{◌≡◌, ℕ, List, Some, slice_get}
use Rattle.terms.specs.Sets.{has}
use Rattle.versions.specs.Words.{Text}
use Rattle.registry.specs.Registry.{Packages, meets_at, needs_of, number_of}

-- the version depends at this index on the package of this number, in those of its versions that have these ordinals
pub record IsDependency (packages : Packages) (p k index target : ℕ) (ordinals : List ℕ) : Type 0 where
  pub name : Text
  pub need : Text
  pub at : slice_get (needs_of packages p k) index ≡ Some (name, need)
  pub number : number_of packages name ≡ Some target
  pub members : (j : ℕ) → has ordinals j ≡ meets_at packages target j need
