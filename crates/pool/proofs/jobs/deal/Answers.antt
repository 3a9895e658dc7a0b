use Rattle.std.proofs.Common.{ap, arith}
use Rattle.pool.proofs.Steps.{deals}
use Rattle.pool.proofs.jobs.deal.Goals as goal

pub another-one-requires-clause-rule : goal.another-one-requires-clause-rule
another-one-requires-clause-rule c =
    let is = c.loop-i.invariant.knows in
    let parts = ap (λ h. h.parts) is in let stops = ap (λ h. h.stops) is in
    deals _ _ (omega arith) (omega arith)
