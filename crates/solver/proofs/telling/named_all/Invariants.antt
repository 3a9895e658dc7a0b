use Rattle.std.proofs.Common.{◌≡◌, map, take}
use Rattle.solver.specs.Outcomes.{told}
use Rattle.solver.proofs.telling.named_all.Given as goal

-- those before are told
abbrev pub invariant-loop-chosen : goal.invariant-loop-chosen
invariant-loop-chosen l = l.pairs.items ≡ map (told l.registry.packages) (take l.chosen-index l.list)
