-- What holds of every registry that commands made.
use Rattle.std.specs.Prelude.{◌≡◌, ◌≤◌, All, false, true, length, map}
use Rattle.std.specs.List.{IsDistinct, list_all}
use Rattle.std.specs.Str.{bytes_eq}
use Rattle.versions.specs.Words.{Text, same_precedence}
use Rattle.registry.specs.Needs.{has_name, repeats_name}
use Rattle.registry.specs.Registry.{Package, Packages, Publication, is_known}
use Rattle.registry.specs.declared.registry.TheConstants.{NEED_LIMIT, PACKAGE_LIMIT, VERSION_LIMIT}

-- a publication of the package of this name
pub record IsPublication (packages : Packages) (name : Text) (publication : Publication) : Type 0 where
  -- it has at most NEED_LIMIT dependencies
  pub few : length publication.needs ≤ NEED_LIMIT
  -- it names no dependency twice
  pub once : repeats_name publication.needs ≡ false
  -- it does not depend on its own package
  pub others : has_name publication.needs name ≡ false
  -- each dependency's name is numbered
  pub numbered : list_all (λ (d : Text × Text). is_known packages d.0) publication.needs ≡ true

pub record IsPackage (packages : Packages) (pack : Package) : Type 0 where
  -- it has at most VERSION_LIMIT versions
  pub few : length pack.versions ≤ VERSION_LIMIT
  -- no two of them have equal precedence
  pub distinct : IsDistinct same_precedence (map (λ (v : Publication). v.version) pack.versions)
  pub publications : All (IsPublication packages pack.name) pack.versions

pub record IsRegistry (packages : Packages) : Type 0 where
  -- at most PACKAGE_LIMIT names are numbered
  pub few : length packages ≤ PACKAGE_LIMIT
  -- no two packages have one name
  pub distinct : IsDistinct bytes_eq (map (λ (p : Package). p.name) packages)
  pub packs : All (IsPackage packages) packages
