-- What a search answers, and what stands in the way of an answer.
use Rattle.std.specs.Prelude.{◌≡◌, ℕ, true, List, None, Some}
use Rattle.terms.specs.Incompats.{true_at}
use Rattle.search.specs.declared.assignment.Assignment.{Assignment}
use Rattle.search.specs.Assignments.{decided}
use Rattle.search.specs.Satisfying.{SatisfiedBut}
use Rattle.derivations.specs.Facts.{Terms}
use Rattle.oracle.specs.declared.task.Task.{Task}
use Rattle.search.specs.declared.search.Search.{Search}
use Rattle.search.specs.declared.turns.Turned.{Turned}
use Rattle.search.specs.declared.turns.Turned.TheVariants as turned
use Rattle.derivations.specs.declared.known.CausedIncompatibility.{CausedIncompatibility}
use Rattle.search.specs.declared.turns.Ended.{Ended}
use Rattle.search.specs.declared.turns.Ended.TheVariants as ended
use Rattle.facts.specs.Lines.{AreLines}
use Rattle.facts.specs.Tasks.{IsNewestList, Refuses}
use Rattle.search.specs.Searching.{ActsBy}

-- the terms but the one on the target are satisfied, and that one is true of none, and of what is decided of the target
pub record IsBlame (made : List Assignment) (terms : Terms) (target : ℕ) : Type 0 where
  pub others : SatisfiedBut made terms target
  pub none : true_at terms target None ≡ true
  pub chosen : (k : ℕ) → decided made target ≡ Some k → true_at terms target (Some k) ≡ true

-- the search went on or was refused, or ended with the newest selection and with lawful lines
abbrev pub TurnsBy : Task → Search → Search → Turned → Type 0
TurnsBy task old new (turned.Acted a) = ActsBy task old new ⊥ a
TurnsBy task old new (turned.Selected list) = AreLines task.registry.now.packages task.request.now new.known.items × IsNewestList task list.items

-- the newest selection, with lawful lines, or the place of a line that shows that there is none
abbrev pub EndsBy : Task → List CausedIncompatibility → Ended → Type 0
EndsBy task known (ended.Selected list) = AreLines task.registry.now.packages task.request.now known × IsNewestList task list.items
EndsBy task known (ended.Refused end) = Refuses task known end
