use Rattle.std.proofs.Common.{◌≡◌, ◌≤◌, ◌⊎◌, ℕ, length}
use Rattle.std.specs.Prelude.{Some, slice_get}
use Rattle.walk.proofs.order.Order.note.Given as goal

abbrev pub invariant-loop : goal.invariant-loop
invariant-loop l = record {
  found : l.self.found ≡ l.fn.self.found;
  stage : l.self.stage ≡ l.fn.self.stage;
  noted : length l.self.stages.items ≡ l.counter;
  stages : (i stage : ℕ) → slice_get l.self.stages.items i ≡ Some stage → (slice_get l.fn.self.stages.items i ≡ Some stage) ⊎ ((length l.fn.self.stages.items ≤ i) × (stage ≡ l.fn.self.stage));
}
