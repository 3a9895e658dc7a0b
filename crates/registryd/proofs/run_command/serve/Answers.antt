use Rattle.std.proofs.Common.{inl, inr}
use Rattle.std.proofs.KnownBytes.{Keeps-refl}
use Rattle.registryd.proofs.EndLemmas.{unloaded}
use Rattle.registryd.proofs.KeptLemmas.{err_same}
use Rattle.registryd.proofs.run_command.serve.Goals as goal

pub returns-in-Ok : goal.returns-in-Ok
returns-in-Ok g c = inl (_, c.in-Ok.ensures.begins, c.serve_to.ensures)

pub returns-in-Err : goal.returns-in-Err
returns-in-Err g c =
    let none = c.in-Err.ensures in
    inr (none.named, unloaded _ _ none.unread (λ line is. none.line line (err_same _ _ _ is)), (Keeps-refl _, Keeps-refl _))
