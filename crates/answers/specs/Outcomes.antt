-- What a registry may tell of what it is asked. A session and a race tell the same, each of the registry that it stands at.
use Rattle.std.specs.Prelude.{◌≡◌, ◌↔◌, ◌⊎◌, Bool, true, false, IsTrue, ℕ, List, Option, None, Some}
use Rattle.versions.specs.Words.{Text}
use Rattle.versions.specs.declared.refusal.Refusal.TheVariants.{BudgetSpent, NoMemory}
use Rattle.registry.specs.Registry.{Packages}
use Rattle.registry.specs.Requests.{Wanted}
use Rattle.derivations.specs.Derivations.{IsDerivation}
pub use Rattle.derivations.specs.Derivations.{IsRefuted}
use Rattle.derivations.specs.Lines.{Line}
use Rattle.walk.specs.Answer.{TellsNewest}
use Rattle.explain.specs.Explanations.{explanation}
use Rattle.solver.specs.Outcomes.{NonePreferred}
use Rattle.replies.specs.Listings.{IsListing, Row}
use Rattle.by_name.specs.Named.{IsNumbered}
use Rattle.replies.specs.Replies.{Body, explained, follows, listed, no_selection, refused, selected}
use Rattle.by_name.specs.NamedLines.{NamedLine}

-- ---- requests

-- The newest selection is told.
abbrev pub TellsSelection : Packages → Wanted → Body → Type 0
TellsSelection packages wanted body = (list : List (Text × Text)) × TellsNewest packages wanted list × (body ≡ selected list)

-- It is told why no selection meets the request: a derivation by the names of the registry, and the lines that explain it.
pub record Explains (packages : Packages) (wanted : Wanted) (body : Body) : Type 0 where
  pub refuted : IsRefuted packages wanted
  pub named : List NamedLine
  pub same : IsNumbered packages named refuted.lines
  pub told : body ≡ explained named (explanation packages wanted refuted.lines)

-- It is told that no selection meets the request, and why where that is asked.
abbrev pub TellsNone : Packages → Wanted → Bool → Body → Type 0
TellsNone packages wanted false body = IsRefuted packages wanted × (body ≡ no_selection)
TellsNone packages wanted true body = Explains packages wanted body

-- It is told that the budget is spent. So is no request told that has none, and none whose preferred selection meets it.
abbrev pub TellsSpent : Packages → Wanted → Option ℕ → Body → Type 0
TellsSpent packages wanted None body = ⊥
TellsSpent packages wanted (Some budget) body = NonePreferred packages wanted × (body ≡ refused BudgetSpent)

-- What the solver found is told: the newest selection, or that there is none, and why where it is to explain.
abbrev pub TellsFound : Packages → Wanted → Bool → Body → Type 0
TellsFound packages wanted explain body = TellsSelection packages wanted body ⊎ TellsNone packages wanted explain body

-- ---- derivations

-- the lines stand, by the numbers of the registry, for a derivation that no selection meets the request
abbrev pub Proves : Packages → Wanted → List NamedLine → Type 0
Proves packages wanted named = (lines : List Line) × IsNumbered packages named lines × IsDerivation packages wanted lines

-- It is told whether the lines show that no selection meets the request.
abbrev pub TellsVerdict : Packages → Wanted → List NamedLine → Body → Type 0
TellsVerdict packages wanted lines body = (verdict : Bool) × (IsTrue verdict ↔ Proves packages wanted lines) × (body ≡ follows verdict)

-- ---- listings

-- What is published is told.
abbrev pub TellsListing : Packages → Body → Type 0
TellsListing packages body = (rows : List Row) × IsListing packages rows × (body ≡ listed rows)

-- ---- memory

-- Such a body is told, or lack of memory.
abbrev pub MayTell : (Body → Type 0) → Body → Type 0
MayTell is body = (body ≡ refused NoMemory) ⊎ is body
