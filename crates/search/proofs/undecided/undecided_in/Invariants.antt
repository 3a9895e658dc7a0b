use Rattle.search.proofs.StillOpen.{AreFoundBelow}
use Rattle.search.proofs.undecided.undecided_in.Given as goal

abbrev pub invariant-heads : goal.invariant-heads
invariant-heads l = AreFoundBelow l.trail.made.items l.found.items l.index
