use Rattle.facts.specs.Pushing.{Extends}
use Rattle.checker.proofs.replaying.push_records.Given as goal

abbrev pub invariant-loop-record : goal.invariant-loop-record
invariant-loop-record l = Extends l.task l.fn.known.items l.known.items
