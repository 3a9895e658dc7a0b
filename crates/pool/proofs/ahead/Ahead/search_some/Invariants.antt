use Rattle.pool.specs.Taking.{IsTakerOf}
use Rattle.pool.proofs.ahead.Ahead.search_some.Given as goal

abbrev pub invariant-loop-i : goal.invariant-loop-i
invariant-loop-i g l = IsTakerOf l.jobs l.taker
