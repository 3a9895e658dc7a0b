use Rattle.std.proofs.Common.{arith}
use Rattle.store.proofs.Finding.{length_kept}
use Rattle.store.proofs.store.Store.tidy_if_empty.Goals as goal

pub overflow_sub-empty : goal.overflow_sub-empty
overflow_sub-empty c = omega (arith, c.self.invariant.counted, length_kept c.self.inside.slots.items, c.len.ensures)
