use Rattle.std.proofs.lemmas.Result.{IfOk-from_err}
use Rattle.registry.proofs.registry.Registry.publish.Goals as goal

pub returns-in_err-make_ready-clause-packages : goal.returns-in_err-make_ready-clause-packages
returns-in_err-make_ready-clause-packages c = IfOk-from_err c.from_residual.result _ c.from_residual.ensures.0
