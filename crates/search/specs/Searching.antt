-- What a search keeps, and what an attempt to go on did.
use Rattle.std.specs.Prelude.{◌≡◌, ◌≤◌, ◌<◌, ℕ, true, not, List, take, length, slice_get, Option, Some}
use Rattle.terms.specs.Terms.{true_of}
use Rattle.terms.specs.Incompats.{has_term, true_at}
use Rattle.search.specs.declared.assignment.Assignment.{Assignment}
use Rattle.search.specs.declared.assignment.Why.{Why}
use Rattle.search.specs.declared.assignment.Why.TheVariants.{Decided, Derived}
use Rattle.search.specs.Assignments.{says, decisions}
use Rattle.search.specs.Satisfying.{IsNeither, LeavesAlmost, Satisfied, SatisfiedBut}
use Rattle.search.specs.Rank.{rank}
use Rattle.registry.specs.Registry.{Packages}
use Rattle.registry.specs.Requests.{Wanted}
use Rattle.derivations.specs.declared.known.CausedIncompatibility.{CausedIncompatibility}
use Rattle.oracle.specs.declared.task.Task.{Task}
use Rattle.search.specs.declared.search.Search.{Search}
use Rattle.search.specs.declared.acting.Acted.{Acted}
use Rattle.search.specs.declared.acting.Acted.TheVariants as acted
use Rattle.search.specs.declared.conflict.Resolution.{Resolution}
use Rattle.search.specs.declared.conflict.Resolution.TheVariants as resolution
use Rattle.search.specs.Deciding.{IsPlaced}
use Rattle.facts.specs.Lines.{AreLines, AtLine}
use Rattle.facts.specs.Tasks.{Refuses}

-- ---- what a search keeps

-- the assignment is the negation of the term of the line at place k, whose other terms are satisfied by what came before
pub record IsCaused (known : List CausedIncompatibility) (before : List Assignment) (a : Assignment) (k : ℕ) : Type 0 where
  pub line : CausedIncompatibility
  pub at : slice_get known k ≡ Some line
  pub on_package : has_term line.conclusion a.pkg ≡ true
  pub negation : (choice : Option ℕ) → true_at line.conclusion a.pkg choice ≡ not (true_of a.term choice)
  pub others : SatisfiedBut before line.conclusion a.pkg

-- a decision needs no cause, but has its place in the order of the walk
abbrev pub IsCausedBy : Packages → Wanted → List CausedIncompatibility → List Assignment → Assignment → Why → Type 0
IsCausedBy packages wanted known before a (Decided ordinal) = IsPlaced packages wanted before a.pkg ordinal
IsCausedBy packages wanted known before a (Derived k) = IsCaused known before a k

-- the root's derivation and decision come first
pub record BeginsWithRoot (made : List Assignment) : Type 0 where
  pub two : 2 ≤ length made
  pub opened : decisions (take 2 made) ≡ 1
  pub chosen : says (take 2 made) 0 (Some 0) ≡ true
  pub only : (choice : Option ℕ) → says (take 2 made) 0 choice ≡ true → choice ≡ Some 0
  pub alone : (pkg : ℕ) (choice : Option ℕ) → (pkg ≡ 0 → ⊥) → says (take 2 made) pkg choice ≡ true

-- the lines are lawful, the root comes first, each derivation is caused by a line, and decisions are placed in the order of the walk
pub record IsSearch (packages : Packages) (wanted : Wanted) (made : List Assignment) (known : List CausedIncompatibility) : Type 0 where
  pub lines : AreLines packages wanted known
  pub begins : BeginsWithRoot made
  pub caused : (i : ℕ) (a : Assignment) → slice_get made i ≡ Some a → IsCausedBy packages wanted known (take i made) a a.why

-- the search is one for the task
abbrev pub Searches : Task → Search → Type 0
Searches task search = IsSearch task.registry.now.packages task.request.now search.partial search.known.items

-- ---- what a conflict ends in

-- the line of a conflict, which the assignments before `bound` satisfy
pub record IsResolving (packages : Packages) (wanted : Wanted) (made : List Assignment) (known : List CausedIncompatibility) (at bound : ℕ) : Type 0 where
  pub search : IsSearch packages wanted made known
  pub here : AtLine known at (λ line. Satisfied (take bound made) line.conclusion)

-- a line that a jump back to the level leaves almost satisfied, or a line without terms
abbrev pub ResolvesBy : Task → List Assignment → List CausedIncompatibility → Resolution → Type 0
ResolvesBy task made known (resolution.Back at level) = AtLine known at (λ line. LeavesAlmost made line.conclusion level)
ResolvesBy task made known (resolution.Refused end) = Refuses task known end

-- ---- what an attempt to go on did

-- it is still a search, and its rank fell, so that it ends
abbrev pub GoesOn : Task → Search → Search → Type 0
GoesOn task old new = Searches task new × (rank new.partial < rank old.partial)

-- it went on, or ended in a refusal, or did neither, and then `neither` is so
abbrev pub ActsBy : Task → Search → Search → Type 0 → Acted → Type 0
ActsBy task old new neither (acted.Derived pkg) = GoesOn task old new
ActsBy task old new neither (acted.Backjumped at pkg) = GoesOn task old new
ActsBy task old new neither (acted.Refused end) = Refuses task new.known.items end
ActsBy task old new neither acted.Neither = neither

-- nothing was assigned and no line was added
abbrev pub IsUnchanged : Search → Search → Type 0
IsUnchanged old new = (new.partial ≡ old.partial) × (new.known.items ≡ old.known.items)

-- nothing was changed, since the line at this place is neither satisfied nor almost satisfied
abbrev pub IsUnused : Search → Search → ℕ → Type 0
IsUnused old new at = IsUnchanged old new × AtLine old.known.items at (λ line. IsNeither old.partial line.conclusion)
