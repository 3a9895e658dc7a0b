-- What chains show of a trace.
use Rattle.std.specs.Prelude.{All}
use Rattle.checker.specs.Shown.{IsShown}
use Rattle.checker.specs.declared.showing.Showing.{Showing}
use Rattle.oracle.specs.declared.task.Task.{Task}

-- each conclusion is shown
abbrev pub AreConcluded : Task → Showing → Type 0
AreConcluded task showing = All (IsShown task.registry.now.packages task.request.now) showing.conclusions.items
