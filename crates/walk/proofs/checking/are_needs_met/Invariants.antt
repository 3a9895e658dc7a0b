use Rattle.std.proofs.Common.{◌<◌, ℕ}
use Rattle.walk.specs.Choosing.{choice_of}
use Rattle.walk.specs.Walks.{IsMetAt}
use Rattle.walk.proofs.checking.are_needs_met.Given as goal

abbrev pub invariant-loop-index : goal.invariant-loop-index
invariant-loop-index l = (j : ℕ) → j < l.index → IsMetAt l.registry.packages (choice_of l.found.entries) l.request.needs j
