use Rattle.store.specs.Slots.{AreFoundBelow, HasKey}
use Rattle.store.proofs.slots.add_keys.Given as goal

abbrev pub invariant-loop-place : goal.invariant-loop-place
invariant-loop-place l = AreFoundBelow HasKey l.place l.keys l.slots
