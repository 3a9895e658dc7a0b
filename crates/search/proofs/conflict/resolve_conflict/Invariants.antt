use Rattle.search.specs.Searching.{IsResolving}
use Rattle.search.proofs.conflict.resolve_conflict.Given as goal

-- the line at hand is satisfied by the assignments before `bound`
abbrev pub invariant-resolution : goal.invariant-resolution
invariant-resolution l = IsResolving l.task.registry.now.packages l.task.request.now l.partial l.known.items l.at l.bound

-- each satisfier stands before the last one
abbrev pub decreases-resolution : goal.decreases-resolution
decreases-resolution l = l.bound
