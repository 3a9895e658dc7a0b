use Rattle.std.proofs.Common.{◌≡◌}
use Rattle.probe.proofs.pool_calls.FirstConsumer.consume.Given as goal

abbrev pub invariant-loop-at : goal.invariant-loop-at
invariant-loop-at g l = (l.answers ≡ l._at) × (l.self.count ≡ l.initial.self.count)
