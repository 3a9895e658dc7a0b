use Rattle.std.proofs.Common.{◌≡◌, ◌++◌, length}
use Rattle.derivations.specs.Learning.{targets_of}
use Rattle.derivations.proofs.learnt.targets_in.Given as goal

abbrev pub invariant-gather : goal.invariant-gather
invariant-gather l = l.targets.items ++ targets_of l.left ≡ targets_of l.lines

abbrev pub decreases-gather : goal.decreases-gather
decreases-gather l = length l.left
