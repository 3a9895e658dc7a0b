use Rattle.std.proofs.Common.{length}
use Rattle.search.specs.Searching.{IsUnchanged, Searches}
use Rattle.search.proofs.propagating.propagate.Given as goal

abbrev pub invariant-packages : goal.invariant-packages
invariant-packages l = record { search : Searches l.task l.search; same : IsUnchanged l.fn.search l.search }

abbrev pub decreases-packages : goal.decreases-packages
decreases-packages l = length l.worklist.changed.items
