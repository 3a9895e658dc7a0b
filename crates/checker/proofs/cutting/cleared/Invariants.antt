use Rattle.std.proofs.Common.{◌≡◌, length}
use Rattle.checker.specs.Cutting.{AreNumberedAt}
use Rattle.checker.specs.Taking.{places_of}
use Rattle.checker.proofs.cutting.cleared.Given as goal

abbrev pub invariant-clear : goal.invariant-clear
invariant-clear l = record { size : length l.list.items ≡ length l.fn.numbers.items; numbered : AreNumberedAt l.list.items (places_of l.left) }

abbrev pub decreases-clear : goal.decreases-clear
decreases-clear l = length l.left
