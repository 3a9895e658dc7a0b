use Rattle.std.proofs.Common.{◌+◌, length}
use Rattle.terms.proofs.MergedWords.{IsCountingKept}
use Rattle.terms.proofs.merging.count_kept.Given as goal

abbrev pub invariant-merge : goal.invariant-merge
invariant-merge l = IsCountingKept l.rule l.first l.second l.left l.right l.total

abbrev pub decreases-merge : goal.decreases-merge
decreases-merge l = length l.left + length l.right
