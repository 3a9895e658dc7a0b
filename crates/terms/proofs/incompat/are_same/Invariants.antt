use Rattle.std.proofs.Common.{◌≡◌, length}
use Rattle.std.specs.Prelude.{◌↔◌}
use Rattle.terms.proofs.incompat.are_same.Given as goal

abbrev pub invariant-compare : goal.invariant-compare
invariant-compare l = (l.first ≡ l.second) ↔ (l.left ≡ l.right)

abbrev pub decreases-compare : goal.decreases-compare
decreases-compare l = length l.left
