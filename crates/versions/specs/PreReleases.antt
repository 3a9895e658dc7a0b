-- When a pre-release may meet a requirement.
use Rattle.std.specs.Prelude.{◌≡◌, ◌<◌, Any, IsTrue, List, Ok, Some, length}
use Rattle.semver.specs.Parse.{Held, Parts, req_of, version_parts}
use Rattle.versions.specs.Words.{Text, meets}

-- a comparator names the same major, minor and patch as a version, together with a pre-release
pub record NamesPreRelease (version : Parts) (comparator : Held) : Type 0 where
  pub major : comparator.1 ≡ version.0
  pub minor : comparator.2 ≡ Some version.1
  pub patch : comparator.3 ≡ Some version.2
  pub pre_release : 0 < length comparator.4

-- a pre-release that meets a requirement is named by one of its comparators
abbrev pub PreReleasesAreNamed : Type 0
PreReleasesAreNamed = (requirement version : Text) (comparators : List Held) (parts : Parts)
    → req_of requirement ≡ Ok comparators → version_parts version ≡ Ok parts → 0 < length parts.3
    → IsTrue (meets requirement version) → Any (NamesPreRelease parts) comparators
