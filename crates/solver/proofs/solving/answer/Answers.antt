use Rattle.std.proofs.lemmas.Result.{err_from_is_err_and}
use Rattle.solver.proofs.solving.answer.Goals as goal

-- where it is refused

pub returns-in_err-found : goal.returns-in_err-found
returns-in_err-found g c =
    let err = err_from_is_err_and c.from_residual.result c.from_residual.ensures.1 in
    rw (err.1, err.2) c.in_err-found.ensures.only
