use Rattle.registryd.proofs.EndLemmas.{failed, saved}
use Rattle.registryd.proofs.KeptLemmas.{err_same}
use Rattle.registryd.proofs.run_command.serve_from.Goals as goal

pub returns-in-Ok : goal.returns-in-Ok
returns-in-Ok g c = saved _ _ _ _ c.saved_to-end.ensures.kind (c.in-Ok.ensures.served.0, c.in-Ok.ensures.served.1.serves)

pub returns-in-Err : goal.returns-in-Err
returns-in-Err g c = failed _ _ _ _ _ c.from.ensures (λ is. c.in-Err.ensures.input (err_same _ _ _ is)) (λ is. c.in-Err.ensures.output (err_same _ _ _ is))
    (λ is. c.in-Err.ensures.memory (err_same _ _ _ is))
