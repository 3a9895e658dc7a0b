-- Lines that grow, and lines that are moved to other places.
use Rattle.std.specs.Prelude.{◌≡◌, ◌<◌, ℕ, List, Some, length, slice_get}
use Rattle.std.proofs.Common.{get_or}
use Rattle.registry.specs.Registry.{Packages}
use Rattle.registry.specs.Requests.{Wanted}
use Rattle.derivations.specs.Facts.{Terms}
use Rattle.derivations.specs.CausedIncompatibilities.{AreLawful, AreOrdered, FollowsFrom, IsBefore, IsResolved, StandsBy}
use Rattle.derivations.specs.declared.known.CausedIncompatibility.{CausedIncompatibility}
use Rattle.derivations.specs.declared.known.Reason.{Reason}
use Rattle.facts.specs.Lines.{Keeps}

-- the lines have grown by such as follow from earlier ones
pub record Grows (old new : List CausedIncompatibility) : Type 0 where
  pub keeps : Keeps old new
  pub ordered : AreOrdered old → AreOrdered new
  pub lawful : (packages : Packages) (wanted : Wanted) → AreLawful packages wanted old → AreLawful packages wanted new

-- what follows from the lines at the ends follows from these two, which are there where those were
pub record FollowsAs (old new : List CausedIncompatibility) (terms : Terms) (pivot : ℕ) (ends two : ℕ × ℕ) : Type 0 where
  pub within : ends.0 < length old → ends.1 < length old → (two.0 < length new) × (two.1 < length new)
  pub follows : FollowsFrom old terms ends.0 ends.1 pivot → FollowsFrom new terms two.0 two.1 pivot

-- the line at this place says what this one does, and is no fact where this one is none
pub record IsMovedTo (lines : List CausedIncompatibility) (line : CausedIncompatibility) (place : ℕ) : Type 0 where
  pub other : CausedIncompatibility
  pub there : slice_get lines place ≡ Some other
  pub same : other.conclusion ≡ line.conclusion
  pub resolved : IsResolved line.reason → IsResolved other.reason

-- the first lines of the search are among these, at these places
pub record AreMoved (known lines : List CausedIncompatibility) (places : List ℕ) : Type 0 where
  pub ordered : AreOrdered lines
  pub lawful : (packages : Packages) (wanted : Wanted) → AreLawful packages wanted known → AreLawful packages wanted lines
  pub each : (k : ℕ) (line : CausedIncompatibility) → slice_get known k ≡ Some line → k < length places → IsMovedTo lines line (get_or places k 0)

-- for this reason what the search's line says stands behind these lines
pub record IsReasonFor (known lines : List CausedIncompatibility) (line : CausedIncompatibility) (reason : Reason) : Type 0 where
  pub resolved : IsResolved line.reason → IsResolved reason
  pub before : IsBefore (length lines) reason
  pub stands : (packages : Packages) (wanted : Wanted) → AreLawful packages wanted known → StandsBy packages wanted lines line.conclusion reason

-- where the search's lines are lawful, these are, and the one at this place says what the search's does
pub record IsSameSearch (known : List CausedIncompatibility) (place : ℕ) (lines : List CausedIncompatibility) (at : ℕ) : Type 0 where
  pub ordered : AreOrdered lines
  pub lawful : (packages : Packages) (wanted : Wanted) → AreLawful packages wanted known → AreLawful packages wanted lines
  pub own : (line : CausedIncompatibility) → slice_get known place ≡ Some line → IsMovedTo lines line at
