-- The registry: packages in order of first mention, each with its publications in order.
use Rattle.std.specs.Prelude.{◌≡◌, ◌+◌, ℕ, suc, zero, Bool, true, false, List, [], ◌∷◌, is_some, slice_get, Option, Some, None, if◌then◌else◌}
use Rattle.std.specs.Option.{option_and_then}
use Rattle.std.specs.List.{list_any}
use Rattle.std.specs.Str.{bytes_eq}
use Rattle.versions.specs.Words.{Text, meets, same_precedence}

-- a version of a package, and what it depends on: names with requirements
pub record Publication : Type 0 where
  pub version : Text
  pub needs : List (Text × Text)
  pub yanked : Bool

pub record Package : Type 0 where
  pub name : Text
  pub versions : List Publication

-- packages in order of first mention
abbrev pub Packages : Type 0
Packages = List Package

-- ---- packages by name

-- the package has this name
abbrev pub is_named : Text → Package → Bool
is_named name p = bytes_eq name p.name

-- some package has this name
abbrev pub is_known : Packages → Text → Bool
is_known packages name = list_any (is_named name) packages

-- the number of the package of this name, counted from n
abbrev pub number_from : ℕ → Packages → Text → Option ℕ
number_from n [] name = None
number_from n (p ∷ rest) name = if is_named name p then Some n else number_from (suc n) rest name

-- packages are numbered from 1
unfoldable pub number_of : Packages → Text → Option ℕ
number_of packages name = number_from 1 packages name

-- the publications of the package of this name
abbrev pub versions_of : Packages → Text → List Publication
versions_of [] name = []
versions_of (p ∷ rest) name = if is_named name p then p.versions else versions_of rest name

-- one of these publications has a version of equal precedence
abbrev pub has_version : List Publication → Text → Bool
has_version versions version = list_any (λ (v : Publication). same_precedence version v.version) versions

-- ---- packages by number

unfoldable pub package_at : Packages → ℕ → Option Package
package_at packages zero = None
package_at packages (suc n) = slice_get packages n

abbrev pub versions_or_none : Option Package → List Publication
versions_or_none None = []
versions_or_none (Some p) = p.versions

-- a package's publications have ordinals from 0, in order
unfoldable pub publication_at : Packages → ℕ → ℕ → Option Publication
publication_at packages p k = option_and_then (λ (pack : Package). slice_get pack.versions k) (package_at packages p)

abbrev pub is_published : Packages → ℕ → ℕ → Bool
is_published packages p k = is_some (publication_at packages p k)

abbrev pub needs_or_none : Option Publication → List (Text × Text)
needs_or_none None = []
needs_or_none (Some publication) = publication.needs

-- what the version depends on: names with requirements
abbrev pub needs_of : Packages → ℕ → ℕ → List (Text × Text)
needs_of packages p k = needs_or_none (publication_at packages p k)

-- a version that is published and needs what the one before it does
abbrev pub Repeats : Packages → ℕ → ℕ → Type 0
Repeats packages p k = (is_published packages p k ≡ true) × (j : ℕ) × (j + 1 ≡ k) × (needs_of packages p k ≡ needs_of packages p j)

-- whether one of these publications is yanked
abbrev pub has_yank : List Publication → Bool
has_yank versions = list_any (λ (v : Publication). v.yanked) versions

abbrev pub publication_meets : Option Publication → Text → Bool
publication_meets None need = false
publication_meets (Some publication) need = meets need publication.version

-- whether the version is published and meets the requirement
abbrev pub meets_at : Packages → ℕ → ℕ → Text → Bool
meets_at packages p k need = publication_meets (publication_at packages p k) need

-- the ordinals from k on of the publications that meet a requirement
abbrev pub matching_from : ℕ → List Publication → Text → List ℕ
matching_from k [] need = []
matching_from k (v ∷ rest) need = if meets need v.version then k ∷ matching_from (suc k) rest need else matching_from (suc k) rest need

-- the ordinals of the published versions that meet a requirement
unfoldable pub matching : Packages → ℕ → Text → List ℕ
matching packages p need = matching_from 0 (versions_or_none (package_at packages p)) need

abbrev pub publication_equals : Option Publication → Text → Bool
publication_equals None version = false
publication_equals (Some publication) version = same_precedence version publication.version

-- whether the version is published and has equal precedence
abbrev pub equals_at : Packages → ℕ → ℕ → Text → Bool
equals_at packages p k version = publication_equals (publication_at packages p k) version
