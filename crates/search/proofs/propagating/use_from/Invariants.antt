use Rattle.search.specs.Searching.{IsUnchanged, Searches}
use Rattle.search.proofs.propagating.use_from.Given as goal

abbrev pub invariant-loop-at : goal.invariant-loop-at
invariant-loop-at l = record { search : Searches l.task l.search; same : IsUnchanged l.fn.search l.search }
