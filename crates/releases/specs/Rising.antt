-- The ordinals of versions in rising precedence.
use Rattle.std.specs.Prelude.{◌≡◌, ◌<◌, ◌≤◌, ℕ, Bool, true, false, List, length, slice_index, Result, Ok, Err}
use Rattle.std.specs.declared.cmp.Ordering.TheVariants.{Less}
use Rattle.terms.specs.Sets.{has}
use Rattle.versions.specs.Bounds.{is_before, is_within, numbers_in, IsPlain, Reach}
use Rattle.versions.specs.Words.{Text, precedence, same_precedence}
use Rattle.releases.specs.Releases.{version_at}
use Rattle.releases.specs.declared.ranked.Edge.{Edge}
use Rattle.releases.specs.declared.ranked.Edge.TheVariants.{Begin, End}

-- the version that stands at this place of the rising ordinals
abbrev pub risen : List Text → List ℕ → ℕ → Text
risen versions rising i = version_at versions (slice_index rising i)

-- each ordinal stands once, and precedence rises from place to place
pub record IsRising (versions : List Text) (rising : List ℕ) : Type 0 where
  pub paired : length rising ≡ length versions
  pub within : (i : ℕ) → i < length rising → slice_index rising i < length versions
  pub every : (k : ℕ) → k < length versions → has rising k ≡ true
  pub rises : (i j : ℕ) → i < j → j < length rising → precedence (risen versions rising i) (risen versions rising j) ≡ Less

-- the version has precedence above what stands before the place, and below what stands from it on
pub record IsGap (versions : List Text) (rising : List ℕ) (version : Text) (place : ℕ) : Type 0 where
  pub within : place ≤ length rising
  pub above : (i : ℕ) → i < place → precedence (risen versions rising i) version ≡ Less
  pub below : (i : ℕ) → place ≤ i → i < length rising → precedence version (risen versions rising i) ≡ Less

-- the place of the version of equal precedence, or the gap where the version would stand
abbrev pub IsPlace : List Text → List ℕ → Text → Result ℕ ℕ → Type 0
IsPlace versions rising version (Ok place) = (place < length rising) × (same_precedence version (risen versions rising place) ≡ true)
IsPlace versions rising version (Err place) = IsGap versions rising version place

-- the version with this ordinal is published and passes the test, and each one of higher precedence fails it
pub record IsHighest (gives : ℕ → Bool → Type 0) (versions : List Text) (k : ℕ) : Type 0 where
  pub published : k < length versions
  pub passes : gives k true
  pub fails : (j : ℕ) → j < length versions → precedence (version_at versions k) (version_at versions j) ≡ Less → gives j false

-- no version has a pre-release
abbrev pub ArePlain : List Text → Type 0
ArePlain versions = (k : ℕ) → k < length versions → IsPlain (version_at versions k)

-- whether a version stands before an edge of the range
abbrev pub is_before_edge : Edge → Reach → Text → Bool
is_before_edge Begin bounds version = is_before (numbers_in version) bounds.range.lowest
is_before_edge End bounds version = is_within (numbers_in version) bounds.range.end
