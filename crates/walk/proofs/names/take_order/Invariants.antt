use Rattle.std.proofs.Common.{◌≡◌, ℕ, length, map, take}
use Rattle.walk.proofs.names.take_order.Given as goal

abbrev pub invariant-loop-i : goal.invariant-loop-i
invariant-loop-i l = record {
  front : take l.i l.list ≡ map (λ (f : ℕ × (ℕ × ℕ)). f.1) (take l.i l.fronted);
  long : length l.list ≡ length l.fronted;
}
