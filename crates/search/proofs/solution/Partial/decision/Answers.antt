use Rattle.std.proofs.Common.{subst}
use Rattle.search.specs.Assignments.{IsPartial}
use Rattle.search.proofs.Decided.{decided_if}
use Rattle.search.proofs.solution.Partial.decision.Goals as goal

pub returns-clause-only : goal.returns-clause-only
returns-clause-only c =
    let whole : IsPartial c.args.self.now = subst IsPartial c.self.view_is c.self.invariant.0 in
    decided_if c.args.self.now c.args.pkg c.decided_on.result whole.assignments (rw c.self.view_is at c.decided_on.ensures)
