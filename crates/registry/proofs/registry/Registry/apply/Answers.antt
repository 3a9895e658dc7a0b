use Rattle.std.proofs.lemmas.Result.{IfOk-from_err}
use Rattle.registry.proofs.registry.Registry.apply.Goals as goal

pub returns-in_err-publish-in-Publish-clause-packages : goal.returns-in_err-publish-in-Publish-clause-packages
returns-in_err-publish-in-Publish-clause-packages c = IfOk-from_err c.from_residual.result _ c.from_residual.ensures.0

pub returns-in_err-publish-in-Publish-clause-revision : goal.returns-in_err-publish-in-Publish-clause-revision
returns-in_err-publish-in-Publish-clause-revision c = IfOk-from_err c.from_residual.result _ c.from_residual.ensures.0
