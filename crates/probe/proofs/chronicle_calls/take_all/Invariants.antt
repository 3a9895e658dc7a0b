use Rattle.std.proofs.Common.{◌≡◌}
use Rattle.probe.proofs.chronicle_calls.take_all.Given as goal

abbrev pub invariant-loop-step : goal.invariant-loop-step
invariant-loop-step g l = record { second : l.first.row ≡ l.second.row; third : l.first.row ≡ l.third.row; mark : l.mark.row ≡ l.first.row }
