use Rattle.std.proofs.Common.{◌+◌, length}
use Rattle.terms.proofs.MergedTerms.{IsResolving}
use Rattle.terms.proofs.resolving.resolved.Given as goal

abbrev pub invariant-merge : goal.invariant-merge
invariant-merge l = IsResolving l.pivot l.first l.second l.kept.items l.left l.right

abbrev pub decreases-merge : goal.decreases-merge
decreases-merge l = length l.left + length l.right
