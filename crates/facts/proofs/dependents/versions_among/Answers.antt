use Rattle.std.proofs.lemmas.Result.{IfOk-from_err}
use Rattle.facts.proofs.dependents.versions_among.Goals as goal

-- where memory is refused

pub returns-in_err-insert : goal.returns-in_err-insert
returns-in_err-insert c = IfOk-from_err c.from_residual-in_err-insert.result _ c.from_residual-in_err-insert.ensures.0

pub returns-in_err-set : goal.returns-in_err-set
returns-in_err-set c = IfOk-from_err c.from_residual.result _ c.from_residual.ensures.0
