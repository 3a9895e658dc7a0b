use Rattle.facts.specs.Pushing.{Extends}
use Rattle.search.proofs.starting.add_needs.Given as goal

abbrev pub invariant-loop-index : goal.invariant-loop-index
invariant-loop-index l = Extends l.task l.fn.known.items l.known.items
