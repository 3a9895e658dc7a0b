use Rattle.std.proofs.lemmas.Result.{IfOk-from_err}
use Rattle.registry.proofs.ready.kept.Goals as goal

pub returns-in_err-need-clause-same : goal.returns-in_err-need-clause-same
returns-in_err-need-clause-same c = IfOk-from_err c.from_residual.result _ c.from_residual.ensures.0

pub returns-in_err-clone-clause-same : goal.returns-in_err-clone-clause-same
returns-in_err-clone-clause-same c = IfOk-from_err c.from_residual-in_err-clone.result _ c.from_residual-in_err-clone.ensures.0
