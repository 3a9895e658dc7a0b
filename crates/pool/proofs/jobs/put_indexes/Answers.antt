use Rattle.std.proofs.Common.{ap, sym, ◌∙◌, arith}
use Rattle.pool.proofs.Steps.{puts_at, rooms}
use Rattle.pool.proofs.jobs.put_indexes.Goals as goal

pub push_as-requires-clause-rule : goal.push_as-requires-clause-rule
push_as-requires-clause-rule g c =
    let is = c.loop-i.invariant.1 in let parts = ap (λ h. h.parts) is in
    (puts_at _ _ _ _ (sym (ap (λ h. h.count) is)) (omega arith) (parts ∙ sym (ap (λ h. h.all_parts) is)) (ap (λ h. h.stops) is) (ap (λ h. h.told) is), rooms _ _ (omega arith) (parts ∙ sym (ap (λ h. h.all_parts) is)))
