use Rattle.std.proofs.Common.{◌≡◌, ◌≤◌, ◌-◌, length}
use Rattle.std.specs.Prelude.{All}
use Rattle.store.specs.declared.index.TheConstants.{CHAINS}
use Rattle.store.proofs.index.heads_at_zero.Given as goal

abbrev pub invariant-fill : goal.invariant-fill
invariant-fill l = (length l.heads.items ≤ CHAINS) × All (λ head. head ≡ 0) l.heads.items

abbrev pub decreases-fill : goal.decreases-fill
decreases-fill l = CHAINS - length l.heads.items
