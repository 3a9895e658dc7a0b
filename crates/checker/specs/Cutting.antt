-- The walk over the lines of a search: what is to be written, and what the written lines show.
use Rattle.std.specs.Prelude.{◌≡◌, ◌<◌, ◌⊎◌, ℕ, suc, length, Bool, true, false, List, [], ◌∷◌, Some, nat_eq, slice_get, Contains}
use Rattle.std.proofs.Common.{get_or}
use Rattle.terms.specs.declared.term.Term.TheVariants.{In}
use Rattle.registry.specs.Registry.{Packages}
use Rattle.registry.specs.Requests.{Wanted}
use Rattle.derivations.specs.Derivations.{AreDerived, IsEnd, last_conclusion}
use Rattle.derivations.specs.Lines.{Cause, Line}
use Rattle.derivations.specs.declared.facts.Cause.TheVariants as cause
use Rattle.derivations.specs.declared.known.CausedIncompatibility.{CausedIncompatibility}
use Rattle.derivations.specs.declared.known.Reason.{Reason}
use Rattle.derivations.specs.declared.known.Reason.TheVariants.{Fact, Resolved}
use Rattle.derivations.specs.CausedIncompatibilities.{AreLawful, IsResolved}

-- the line at place m is one of the two that it follows from
abbrev pub Reads : Reason → ℕ → Type 0
Reads (Fact c) m = ⊥
Reads (Resolved i j pivot) m = (i ≡ m) ⊎ (j ≡ m)

-- the line at m is one of the two that the line at k follows from
pub record IsCauseOf (known : List CausedIncompatibility) (m k : ℕ) : Type 0 where
  pub line : CausedIncompatibility
  pub at : slice_get known k ≡ Some line
  pub reads : Reads line.reason m

-- whether a line with this reason and this number is still to be written
abbrev pub is_open : Reason → ℕ → Bool
is_open (Fact c) number = false
is_open (Resolved i j pivot) number = nat_eq number 0

-- how a line with this reason and this number is cited
abbrev pub cited : Reason → ℕ → Cause
cited (Fact c) number = c
cited (Resolved i j pivot) number = cause.Line number

-- the place of a line that is still to be written
pub record IsOpen (known : List CausedIncompatibility) (numbers : List ℕ) (m : ℕ) : Type 0 where
  pub line : CausedIncompatibility
  pub at : slice_get known m ≡ Some line
  pub open_there : is_open line.reason (get_or numbers m 0) ≡ true

-- the place of a line whose two causes are written
pub record IsReady (known : List CausedIncompatibility) (numbers : List ℕ) (m : ℕ) : Type 0 where
  pub own : CausedIncompatibility
  pub one : CausedIncompatibility
  pub two : CausedIncompatibility
  pub i : ℕ
  pub j : ℕ
  pub pivot : ℕ
  pub own_at : slice_get known m ≡ Some own
  pub one_at : slice_get known i ≡ Some one
  pub two_at : slice_get known j ≡ Some two
  pub reason : own.reason ≡ Resolved i j pivot
  pub ready_one : is_open one.reason (get_or numbers i 0) ≡ false
  pub ready_two : is_open two.reason (get_or numbers j 0) ≡ false

-- the line for this place
pub record IsLineFor (known : List CausedIncompatibility) (numbers : List ℕ) (m : ℕ) (line : Line) : Type 0 where
  pub ready : IsReady known numbers m
  pub conclusion : line.conclusion ≡ ready.own.conclusion
  pub pivot : line.pivot ≡ ready.pivot
  pub first : line.causes.0 ≡ cited ready.one.reason (get_or numbers ready.i 0)
  pub second : line.causes.1 ≡ cited ready.two.reason (get_or numbers ready.j 0)

-- a zero for each line
pub record AreClear (known : List CausedIncompatibility) (numbers : List ℕ) : Type 0 where
  pub lengths : length numbers ≡ length known
  pub zeros : (k : ℕ) → get_or numbers k 0 ≡ 0

-- each that has a number stands at one of these places
abbrev pub AreNumberedAt : List ℕ → List ℕ → Type 0
AreNumberedAt numbers places = (k : ℕ) → (get_or numbers k 0 ≡ 0) ⊎ Contains places k

-- the line at this place is no fact
pub record IsResolvedAt (known : List CausedIncompatibility) (place : ℕ) : Type 0 where
  pub line : CausedIncompatibility
  pub at : slice_get known place ≡ Some line
  pub resolved : IsResolved line.reason

-- the line at this place may end a derivation, and is no fact
pub record IsEndLine (known : List CausedIncompatibility) (end : ℕ) : Type 0 where
  pub line : CausedIncompatibility
  pub at : slice_get known end ≡ Some line
  pub resolved : IsResolved line.reason
  pub ended : IsEnd line.conclusion

-- the line follows from others, and says only that the root is chosen, so that it may end a derivation
abbrev pub SaysRootAlone : CausedIncompatibility → Type 0
SaysRootAlone line = IsResolved line.reason × (line.conclusion ≡ (0, In (0 ∷ [])) ∷ [])

-- the first line that the end cites may end a derivation already
pub record EndsBefore (known : List CausedIncompatibility) (end : ℕ) : Type 0 where
  pub own : CausedIncompatibility
  pub before : CausedIncompatibility
  pub i : ℕ
  pub j : ℕ
  pub pivot : ℕ
  pub at : slice_get known end ≡ Some own
  pub reason : own.reason ≡ Resolved i j pivot
  pub before_at : slice_get known i ≡ Some before
  pub says : SaysRootAlone before

-- ---- what is cut from the lines of a search

-- a cause of the line is the line with this number
abbrev pub Cites : Line → ℕ → Type 0
Cites line number = (line.causes.0 ≡ cause.Line number) ⊎ (line.causes.1 ≡ cause.Line number)

-- the line at this place is cited by a later one
pub record IsCitedLater (lines : List Line) (place : ℕ) : Type 0 where
  pub later : ℕ
  pub line : Line
  pub after : place < later
  pub at : slice_get lines later ≡ Some line
  pub cites : Cites line (suc place)

-- each line but the last is cited by a later one
abbrev pub AreCited : List Line → Type 0
AreCited lines = (place : ℕ) → suc place < length lines → IsCitedLater lines place

-- these lines show, from facts, what the line at this place says
pub record ShowsLine (known : List CausedIncompatibility) (place : ℕ) (lines : List Line) : Type 0 where
  -- each is derived from facts, whatever the registry and the request that the search was lawful for
  pub derived : (packages : Packages) (wanted : Wanted) → AreLawful packages wanted known → AreDerived packages wanted [] lines
  pub own : CausedIncompatibility
  pub own_at : slice_get known place ≡ Some own
  pub last : last_conclusion lines ≡ Some own.conclusion
  pub cited : AreCited lines
