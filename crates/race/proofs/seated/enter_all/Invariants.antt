use Rattle.std.proofs.Common.{◌≡◌, ◌≤◌, ◌++◌, length}
use Rattle.std.specs.Vec.Iter.{into_iter_items, into_iter_len}
use Rattle.chronicle.specs.declared.row.TheConstants.{CAPACITY_LIMIT}
use Rattle.race.specs.Seated.{Enters}
use Rattle.race.proofs.seated.enter_all.Given as goal

abbrev pub invariant-loop-item : goal.invariant-loop-item
invariant-loop-item l = record {
  split : l.yielded ++ into_iter_items l.item-iterator ≡ into_iter_items l.initial.item-iterator;
  left : into_iter_len l.item-iterator ≡ length (into_iter_items l.item-iterator);
  limit : l.seat.row.capacity ≤ CAPACITY_LIMIT;
  entered : Enters l.initial.seat l.yielded l.seat;
}
