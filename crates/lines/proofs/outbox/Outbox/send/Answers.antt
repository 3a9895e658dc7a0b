use Rattle.lines.proofs.TextLemmas.{writes_waiting}
use Rattle.lines.proofs.outbox.Outbox.send.Goals as goal

pub returns-clause-rest : goal.returns-clause-rest
returns-clause-rest g c =
    rw (← c.self.view_is) (λ before written text appends is.
    writes_waiting c.write_flushed-outcome.result _ _ _ _ text written appends is (rw c.as_slice.ensures.value at c.write_flushed-outcome.ensures.written))
