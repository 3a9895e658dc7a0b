use Rattle.std.proofs.lemmas.Result.{IfOk-from_err}
use Rattle.registry.proofs.ready.named_needs.Goals as goal

pub returns-in_err-named-clause-same : goal.returns-in_err-named-clause-same
returns-in_err-named-clause-same c = IfOk-from_err c.from_residual.result _ c.from_residual.ensures.0

pub returns-in_err-named-clause-named : goal.returns-in_err-named-clause-named
returns-in_err-named-clause-named c = IfOk-from_err c.from_residual.result _ c.from_residual.ensures.0

pub returns-in_err-named-clause-empty : goal.returns-in_err-named-clause-empty
returns-in_err-named-clause-empty c = IfOk-from_err c.from_residual.result _ c.from_residual.ensures.0

pub returns-in_err-same-clause-same : goal.returns-in_err-same-clause-same
returns-in_err-same-clause-same c = IfOk-from_err c.from_residual-in_err-same.result _ c.from_residual-in_err-same.ensures.0

pub returns-in_err-same-clause-named : goal.returns-in_err-same-clause-named
returns-in_err-same-clause-named c = IfOk-from_err c.from_residual-in_err-same.result _ c.from_residual-in_err-same.ensures.0

pub returns-in_err-same-clause-empty : goal.returns-in_err-same-clause-empty
returns-in_err-same-clause-empty c = IfOk-from_err c.from_residual-in_err-same.result _ c.from_residual-in_err-same.ensures.0
