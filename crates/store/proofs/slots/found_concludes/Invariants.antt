use Rattle.store.specs.Indexes.{chain_of}
use Rattle.store.specs.Slots.{concludes}
use Rattle.store.proofs.Chained.{Walked}
use Rattle.store.proofs.Finding.{FailsAt}
use Rattle.store.proofs.slots.found_concludes.Given as goal

abbrev pub invariant-walk : goal.invariant-walk
invariant-walk l = Walked l.keys.links (chain_of l.key) l.at (FailsAt (concludes l.conclusion) l.slots l.key)

abbrev pub decreases-walk : goal.decreases-walk
decreases-walk l = l.at
