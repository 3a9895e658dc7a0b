use Rattle.probe.proofs.seat_steps.named.Given as goal

abbrev pub decreases-walk : goal.decreases-walk
decreases-walk l = l.at
