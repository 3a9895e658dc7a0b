use Rattle.std.proofs.Common.{◌≡◌, ◌≤◌, ◌+◌, ◌++◌, length, map, vec_len, vec_capacity}
use Rattle.std.specs.Vec.Iter.{into_iter_items, into_iter_len}
use Rattle.race.specs.Seated.{waiting}
use Rattle.race.proofs.seated.seat_all.Given as goal

abbrev pub invariant-loop-seat : goal.invariant-loop-seat
invariant-loop-seat l = record {
  split : l.yielded ++ into_iter_items l.seat-iterator ≡ into_iter_items l.initial.seat-iterator;
  left : into_iter_len l.seat-iterator ≡ length (into_iter_items l.seat-iterator);
  reserved : vec_len l.seated + into_iter_len l.seat-iterator ≤ vec_capacity l.seated;
  seats : map (λ b. b.value) l.seated.items ≡ map waiting l.yielded;
}
