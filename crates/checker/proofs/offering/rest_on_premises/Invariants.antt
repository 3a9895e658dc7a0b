use Rattle.std.proofs.Common.{length}
use Rattle.std.specs.Prelude.{◌↔◌}
use Rattle.checker.specs.Offering.{RestOnPremises}
use Rattle.checker.proofs.offering.rest_on_premises.Given as goal

abbrev pub invariant-look : goal.invariant-look
invariant-look l = RestOnPremises l.lines ↔ RestOnPremises l.left

abbrev pub decreases-look : goal.decreases-look
decreases-look l = length l.left
