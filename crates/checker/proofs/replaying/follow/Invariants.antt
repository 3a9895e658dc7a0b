use Rattle.facts.specs.Pushing.{Extends}
use Rattle.checker.proofs.replaying.follow.Given as goal

abbrev pub invariant-loop-step : goal.invariant-loop-step
invariant-loop-step l = Extends l.task l.fn.known.items l.known.items
