-- What is kept beside the releases of a package.
use Rattle.std.specs.Prelude.{◌≡◌, ◌<◌, ◌≤◌, ◌^◌, ℕ, Bool, true, min, List, [], ◌∷◌, ◌++◌, length, slice_index_or}
use Rattle.terms.specs.Growing.{Growing}
use Rattle.terms.specs.Sets.{has}
use Rattle.versions.specs.Bounds.{IsBounded, Reach}
use Rattle.versions.specs.Words.{Text}
use Rattle.releases.specs.declared.matching.TheConstants.{KEPT_SETS}
use Rattle.releases.specs.declared.release.Release.{Release}
use Rattle.releases.specs.Releases.{meets_at, versions_of}
use Rattle.releases.specs.Rising.{ArePlain, IsRising}

-- what a contract sees of the releases of a package
pub record Listing : Type 0 where
  -- in order of publication
  pub releases : List Release
  -- the requirements that are named, in order of naming
  pub needs : List Text
  -- how many more releases can come in without memory
  pub room : ℕ

-- a set has the ordinals of the versions that meet the requirement
abbrev pub IsMatching : List Text → Text → List ℕ → Type 0
IsMatching versions need set = (k : ℕ) → has set k ≡ meets_at versions need k

-- each of the requirements that were named first has its matching set
pub record AreMatching (versions : List Text) (needs : List Text) (sets : List Growing) : Type 0 where
  pub paired : length sets ≡ min (length needs) KEPT_SETS
  pub exact : (i : ℕ) (need : Text) (set : Growing) → i < length sets → IsMatching versions (slice_index_or needs i need) (slice_index_or sets i set).ordinals

-- the sets once the requirement is named that comes to this place: with its own, if it is one of the first
pub record IsKeptNext (versions : List Text) (need : Text) (place : ℕ) (was now : List Growing) : Type 0 where
  pub first : place < KEPT_SETS → (set : Growing) × (now ≡ was ++ set ∷ []) × IsMatching versions need set.ordinals
  pub later : KEPT_SETS ≤ place → now ≡ was

-- each requirement has its bounds
pub record AreBounds (needs : List Text) (bounds : List Reach) : Type 0 where
  pub paired : length bounds ≡ length needs
  pub exact : (i : ℕ) (need : Text) (of : Reach) → i < length needs → IsBounded (slice_index_or needs i need) (slice_index_or bounds i of)

-- the least room of all sets, at most this
abbrev pub least_room : ℕ → List Growing → ℕ
least_room room [] = room
least_room room (set ∷ rest) = min set.room (least_room room rest)

-- what is kept beside the releases is what they ask for
pub record IsKept (releases : List Release) (rising : List ℕ) (needs : List Text) (sets : List Growing) (bounds : List Reach) (is_plain : Bool) : Type 0 where
  -- each ordinal is a number of 32 bits
  pub few : length releases ≤ 2 ^ 32
  pub in_order : IsRising (versions_of releases) rising
  pub matching : AreMatching (versions_of releases) needs sets
  pub bounded : AreBounds needs bounds
  pub plain : is_plain ≡ true → ArePlain (versions_of releases)
