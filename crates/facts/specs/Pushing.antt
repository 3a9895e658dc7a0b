-- Facts as lines.
use Rattle.std.specs.Prelude.{◌≡◌, ◌≢◌, ℕ, true, Contains, List, [], Some, slice_get}
use Rattle.versions.specs.Words.{Text}
use Rattle.terms.specs.Sets.{has}
use Rattle.registry.specs.Registry.{Packages, needs_of}
use Rattle.derivations.specs.Facts.{Terms, need_terms}
use Rattle.derivations.specs.declared.known.CausedIncompatibility.{CausedIncompatibility}
use Rattle.oracle.specs.declared.task.Task.{Task}
use Rattle.facts.specs.Lines.{AreLines, AtLine, Keeps}

-- lines that were there are there, and lawful lines are lawful later
pub record Extends (task : Task) (old new : List CausedIncompatibility) : Type 0 where
  pub keeps : Keeps old new
  pub lines : AreLines task.registry.now.packages task.request.now old → AreLines task.registry.now.packages task.request.now new

-- lines extend themselves
pub same_lines : {task : Task} {known : List CausedIncompatibility} → Extends task known known
same_lines = record { keeps = λ k line at. at; lines = λ lines. lines }

-- what extends lines that extend others extends those
pub extends_on : {task : Task} {a b c : List CausedIncompatibility} → Extends task a b → Extends task b c → Extends task a c
extends_on first second = record { keeps = λ k line at. second.keeps k line (first.keeps k line at); lines = λ lines. second.lines (first.lines lines) }

-- the line at this place says this
abbrev pub SaysAt : List CausedIncompatibility → Terms → ℕ → Type 0
SaysAt known terms at = AtLine known at (λ line. line.conclusion ≡ terms)

-- these are versions of the package, some at least, and each has the dependency
pub record AreDependents (packages : Packages) (pkg : ℕ) (entry : Text × Text) (versions : List ℕ) : Type 0 where
  pub some : versions ≢ []
  pub each : (k : ℕ) → has versions k ≡ true → Contains (needs_of packages pkg k) entry

-- the line at this place is for the need with this index
pub record IsForNeed (packages : Packages) (needs : List (Text × Text)) (known : List CausedIncompatibility) (index at : ℕ) : Type 0 where
  pub need : Text × Text
  pub asked : slice_get needs index ≡ Some need
  pub line : SaysAt known (need_terms packages need.0 need.1) at
