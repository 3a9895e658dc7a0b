use Rattle.std.proofs.Common.{◌≡◌, length}
use Rattle.store.specs.Indexes.{chain_of}
use Rattle.store.specs.Slots.{AreThinned, is_met, kept}
use Rattle.store.proofs.Chained.{Walked}
use Rattle.store.proofs.Wanting.{DropsAt}
use Rattle.store.proofs.requirement_index.drop_found.Given as goal

abbrev pub invariant-walk : goal.invariant-walk
invariant-walk l =
    AreThinned (is_met l.pkg l.version) l.initial.slots l.slots
    × (l.left ≡ length (kept l.slots))
    × Walked l.targets.links (chain_of l.pkg) l.at (DropsAt l.wants l.members.links l.pkg l.version l.slots)

abbrev pub decreases-walk : goal.decreases-walk
decreases-walk l = l.at
