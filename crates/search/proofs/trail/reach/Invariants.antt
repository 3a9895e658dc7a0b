use Rattle.std.proofs.Common.{◌+◌, ◌-◌, length}
use Rattle.search.specs.Trail.{AreFew, AreSameHeads}
use Rattle.search.proofs.trail.reach.Given as goal

abbrev pub invariant-heads : goal.invariant-heads
invariant-heads l = record {
  same : AreSameHeads l.initial.heads.items l.heads.items;
  few : AreFew l.initial.heads.items → AreFew l.heads.items;
}

abbrev pub decreases-heads : goal.decreases-heads
decreases-heads l = l.pkg + 1 - length l.heads.items
