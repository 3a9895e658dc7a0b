use Rattle.std.proofs.Common.{◌+◌, length, []}
use Rattle.terms.proofs.MergedWords.{IsMerging}
use Rattle.terms.proofs.merging.first_kept.Given as goal

abbrev pub invariant-merge : goal.invariant-merge
invariant-merge l = IsMerging l.rule l.first l.second [] l.left l.right

abbrev pub decreases-merge : goal.decreases-merge
decreases-merge l = length l.left + length l.right
