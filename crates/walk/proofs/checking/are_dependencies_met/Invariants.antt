use Rattle.std.proofs.Common.{◌<◌, ℕ}
use Rattle.registry.specs.Registry.{needs_of}
use Rattle.walk.specs.Choosing.{choice_of}
use Rattle.walk.specs.Walks.{IsMetAt}
use Rattle.walk.proofs.checking.are_dependencies_met.Given as goal

abbrev pub invariant-loop-index : goal.invariant-loop-index
invariant-loop-index l = (j : ℕ) → j < l.index → IsMetAt l.registry.packages (choice_of l.found.entries) (needs_of l.registry.packages l.version.0 l.version.1) j
