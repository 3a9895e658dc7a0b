use Rattle.std.proofs.Common.{length}
use Rattle.checker.specs.Pairing.{Grows}
use Rattle.checker.proofs.pairing.push_pairs.Given as goal

abbrev pub invariant-pairs : goal.invariant-pairs
invariant-pairs l = Grows l.fn.lines.items l.lines.items

abbrev pub decreases-pairs : goal.decreases-pairs
decreases-pairs l = length l.left
