-- The lines of a search: facts, and what follows from lines before.
use Rattle.std.specs.Prelude.{◌≡◌, ◌<◌, ℕ, ◌||◌, true, List, [], Some, slice_get}
use Rattle.terms.specs.Incompats.{Follows, has_term}
use Rattle.registry.specs.Registry.{Packages}
use Rattle.registry.specs.Requests.{Wanted}
use Rattle.derivations.specs.Facts.{Terms}
use Rattle.derivations.specs.Derivations.{IsFact}
use Rattle.derivations.specs.declared.known.CausedIncompatibility.{CausedIncompatibility}
use Rattle.derivations.specs.declared.known.Reason.{Reason}
use Rattle.derivations.specs.declared.known.Reason.TheVariants.{Fact, Resolved}

-- the line follows from two others
abbrev pub IsResolved : Reason → Type 0
IsResolved (Fact c) = ⊥
IsResolved (Resolved i j pivot) = Unit {0}

-- the two lines that it cites stand before place k
abbrev pub IsBefore : ℕ → Reason → Type 0
IsBefore k (Fact c) = Unit {0}
IsBefore k (Resolved i j pivot) = (i < k) × (j < k)

-- each line cites only lines before it
abbrev pub AreOrdered : List CausedIncompatibility → Type 0
AreOrdered known = (k : ℕ) (line : CausedIncompatibility) → slice_get known k ≡ Some line → IsBefore k line.reason

-- what follows from the lines at i and j on the pivot, on which one of them has a term
pub record FollowsFrom (known : List CausedIncompatibility) (terms : Terms) (i j pivot : ℕ) : Type 0 where
  pub one : CausedIncompatibility
  pub two : CausedIncompatibility
  pub one_at : slice_get known i ≡ Some one
  pub two_at : slice_get known j ≡ Some two
  pub on_pivot : (has_term one.conclusion pivot || has_term two.conclusion pivot) ≡ true
  pub follows : Follows terms one.conclusion two.conclusion pivot

-- what the line says is a true fact, or follows from two lines
abbrev pub StandsBy : Packages → Wanted → List CausedIncompatibility → Terms → Reason → Type 0
StandsBy packages wanted known terms (Fact c) = IsFact packages wanted c terms
StandsBy packages wanted known terms (Resolved i j pivot) = FollowsFrom known terms i j pivot

-- each line is a true fact, or follows from two lines
abbrev pub AreLawful : Packages → Wanted → List CausedIncompatibility → Type 0
AreLawful packages wanted known = (k : ℕ) (line : CausedIncompatibility) → slice_get known k ≡ Some line → StandsBy packages wanted known line.conclusion line.reason

-- the line at this place has no terms, and is no fact
pub record EndsAt (known : List CausedIncompatibility) (end : ℕ) : Type 0 where
  pub line : CausedIncompatibility
  pub at : slice_get known end ≡ Some line
  pub resolved : IsResolved line.reason
  pub empty : line.conclusion ≡ []
