use Rattle.pool.specs.Taking.{IsTakerOf}
use Rattle.pool.proofs.ahead.Ahead.search.Given as goal

abbrev pub invariant-loop : goal.invariant-loop
invariant-loop g l = IsTakerOf l.jobs l.taker
