use Rattle.std.proofs.Common.{length}
use Rattle.store.specs.RequirementIndex.{IsWhole, KeepsHeld}
use Rattle.store.proofs.Wanting.{HoldsBut}
use Rattle.store.proofs.requirement_index.add_rests.Given as goal

abbrev pub invariant-add : goal.invariant-add
invariant-add l = KeepsHeld l.initial.wants l.wants × (IsWhole l.wants → HoldsBut l.wants l.member l.learnt l.left)

abbrev pub decreases-add : goal.decreases-add
decreases-add l = length l.left
