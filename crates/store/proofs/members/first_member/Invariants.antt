use Rattle.std.proofs.Common.{◌≡◌, length}
use Rattle.store.specs.Slots.{kept}
use Rattle.store.proofs.members.first_member.Given as goal

abbrev pub invariant-seek : goal.invariant-seek
invariant-seek l = kept l.left ≡ kept l.slots

abbrev pub decreases-seek : goal.decreases-seek
decreases-seek l = length l.left
