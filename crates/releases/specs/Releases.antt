-- The releases of a package in order of publication, which is the order of their ordinals, from 0.
use Rattle.std.specs.Prelude.{◌≡◌, ◌<◌, ℕ, zero, suc, ◌&&◌, Bool, true, false, List, [], ◌∷◌, ◌++◌, Option, None, Some, length, map, slice_get, slice_index_or, if◌then◌else◌}
use Rattle.std.specs.List.{list_any}
use Rattle.std.specs.Str.{bytes_eq}
use Rattle.versions.specs.Words.{Text, meets, same_precedence}
use Rattle.releases.specs.declared.release.Release.{Release}

-- the versions, in order of publication
abbrev pub versions_of : List Release → List Text
versions_of releases = map (λ (release : Release). release.version) releases

-- the version with this ordinal, no text where there is none
abbrev pub version_at : List Text → ℕ → Text
version_at versions k = slice_index_or versions k []

-- whether a version of equal precedence is published
abbrev pub has_version : List Text → Text → Bool
has_version versions version = list_any (same_precedence version) versions

-- the version with this ordinal is published, and has equal precedence
abbrev pub IsFound : List Text → Text → ℕ → Type 0
IsFound versions version k = (k < length versions) × (same_precedence version (version_at versions k) ≡ true)

abbrev pub meets_some : Text → Option Text → Bool
meets_some need None = false
meets_some need (Some version) = meets need version

-- whether the version with this ordinal is published and meets the requirement
abbrev pub meets_at : List Text → Text → ℕ → Bool
meets_at versions need k = meets_some need (slice_get versions k)

-- the ordinals from k on of the versions that meet a requirement
abbrev pub meeting_from : ℕ → List Text → Text → List ℕ
meeting_from k [] need = []
meeting_from k (version ∷ rest) need = if meets need version then k ∷ meeting_from (suc k) rest need else meeting_from (suc k) rest need

-- the ordinals of the versions that meet a requirement
unfoldable pub meeting : List Text → Text → List ℕ
meeting versions need = meeting_from 0 versions need

-- whether a version of equal precedence is published and yanked
abbrev pub is_yanked : List Release → Text → Bool
is_yanked releases version = list_any (λ (release : Release). same_precedence version release.version && release.yanked) releases

-- the release with this ordinal, if there is one, is yanked where the version is
abbrev pub IsYankedAs : List Release → Text → ℕ → Type 0
IsYankedAs releases version k = (release : Release) → slice_get releases k ≡ Some release → release.yanked ≡ is_yanked releases version

-- a release with this version as it is published
abbrev pub published : Text → Release
published version = record { version = version; yanked = false }

-- the releases, with each version of equal precedence yanked or not
abbrev pub stamped : Text → Bool → List Release → List Release
stamped version yanked releases =
    map (λ (release : Release). if same_precedence version release.version then record { version = release.version; yanked = yanked } else release) releases

-- where the version with this ordinal has equal precedence, the new releases are the old ones with it yanked or not
abbrev pub AreStamped : List Release → ℕ → Bool → List Release → Type 0
AreStamped old ordinal yanked new = (version : Text) → IsFound (versions_of old) version ordinal → new ≡ stamped version yanked old

-- the releases, with the one of this ordinal yanked or not
abbrev pub marked : List Release → ℕ → Bool → List Release
marked [] k yanked = []
marked (release ∷ rest) zero yanked = (record { version = release.version; yanked = yanked }) ∷ rest
marked (release ∷ rest) (suc k) yanked = release ∷ marked rest k yanked

-- whether the requirement is named
abbrev pub is_named : List Text → Text → Bool
is_named needs need = list_any (bytes_eq need) needs

-- the requirements with this one among them, as the last where it is new
abbrev pub with_need : List Text → Text → List Text
with_need needs need = if is_named needs need then needs else needs ++ need ∷ []
