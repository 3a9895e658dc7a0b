-- What is found, before it is told.
use Rattle.std.specs.Prelude.{◌≡◌, All, false, Option, None, Some}
use Rattle.derivations.specs.Derivations.{IsRefuted}
use Rattle.derivations.specs.Learning.{AllStand}
use Rattle.oracle.specs.declared.task.Task.{Task}
use Rattle.solver.specs.declared.found.Found.{Found}
use Rattle.solver.specs.declared.found.Found.TheVariants as found
use Rattle.facts.specs.Tasks.{IsNewestList, Refuses}

-- the newest selection, or lines that show that none meets the task's request, or without these that none does, where it is not asked why; what is offered to be learnt stands
abbrev pub IsFound : Task → Found → Type 0
IsFound task (found.Selected list offered) = IsNewestList task list.items × All (AllStand task.registry.now.packages) offered.items
IsFound task (found.Refused known end offered) = Refuses task known.items end × All (AllStand task.registry.now.packages) offered.items
IsFound task (found.Unexplained offered) = (task.options.explain ≡ false) × IsRefuted task.registry.now.packages task.request.now × All (AllStand task.registry.now.packages) offered.items

-- what was found is, if anything was
abbrev pub IsValidated : Task → Option Found → Type 0
IsValidated task None = Unit {0}
IsValidated task (Some found) = IsFound task found
