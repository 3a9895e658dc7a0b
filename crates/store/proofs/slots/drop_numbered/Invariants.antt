use Rattle.std.proofs.Common.{◌≡◌, length}
use Rattle.store.specs.Indexes.{chain_of}
use Rattle.store.specs.Slots.{AreThinned, is_met, kept}
use Rattle.store.proofs.Chained.{Walked}
use Rattle.store.proofs.Finding.{FailsAt}
use Rattle.store.proofs.slots.drop_numbered.Given as goal

abbrev pub invariant-walk : goal.invariant-walk
invariant-walk l =
    AreThinned (is_met l.pkg l.version) l.initial.slots l.slots
    × (l.left ≡ length (kept l.slots))
    × Walked l.members.links (chain_of l.number) l.at (FailsAt (is_met l.pkg l.version) l.slots l.number)

abbrev pub decreases-walk : goal.decreases-walk
decreases-walk l = l.at
