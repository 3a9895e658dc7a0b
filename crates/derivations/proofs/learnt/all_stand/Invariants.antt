use Rattle.std.proofs.Common.{length}
use Rattle.std.specs.Prelude.{◌↔◌}
use Rattle.derivations.specs.Learning.{AllStand}
use Rattle.derivations.proofs.learnt.all_stand.Given as goal

abbrev pub invariant-ask : goal.invariant-ask
invariant-ask l = AllStand l.registry.packages l.lines ↔ AllStand l.registry.packages l.left

abbrev pub decreases-ask : goal.decreases-ask
decreases-ask l = length l.left
