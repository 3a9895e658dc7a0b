use Rattle.std.proofs.Common.{◌≡◌}
use Rattle.probe.proofs.seat_steps.learn_all.Given as goal

abbrev pub invariant-loop-learnt : goal.invariant-loop-learnt
invariant-loop-learnt l = l.seat.row ≡ l.initial.seat.row
