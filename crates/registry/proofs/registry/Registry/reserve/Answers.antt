use Rattle.std.proofs.lemmas.Result.{IfOk-from_err}
use Rattle.registry.proofs.registry.Registry.reserve.Goals as goal

pub returns-in_err-make_ready-in-Publish-clause-ok : goal.returns-in_err-make_ready-in-Publish-clause-ok
returns-in_err-make_ready-in-Publish-clause-ok c = IfOk-from_err c.from_residual.result _ c.from_residual.ensures.0
