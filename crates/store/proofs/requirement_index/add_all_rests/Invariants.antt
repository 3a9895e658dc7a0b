use Rattle.store.specs.RequirementIndex.{AreHeldBelow}
use Rattle.store.proofs.requirement_index.add_all_rests.Given as goal

abbrev pub invariant-loop-place : goal.invariant-loop-place
invariant-loop-place l = AreHeldBelow l.place l.wants l.slots
