use Rattle.std.proofs.Common.{◌≡◌, ◌+◌, vec_capacity, vec_len}
use Rattle.pool.specs.Ahead.{AreInPlace}
use Rattle.pool.proofs.in_order.put_none.Given as goal

abbrev pub invariant-loop-i : goal.invariant-loop-i
invariant-loop-i g l = record {
  places : AreInPlace l.slots.items;
  count : vec_len l.slots ≡ vec_len l.initial.slots + l._i;
  capacity : vec_capacity l.slots ≡ vec_capacity l.initial.slots;
}
