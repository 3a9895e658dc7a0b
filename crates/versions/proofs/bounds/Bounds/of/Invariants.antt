use Rattle.std.proofs.Common.{take}
use Rattle.versions.proofs.BoundLemmas.{IsBoundedBy}
use Rattle.versions.proofs.bounds.Bounds.of.Given as goal

abbrev pub invariant-loop-comparator : goal.invariant-loop-comparator
invariant-loop-comparator l = IsBoundedBy (take l.comparator-index l.comparator-items) l.bounds
