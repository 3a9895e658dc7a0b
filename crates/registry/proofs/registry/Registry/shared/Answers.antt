use Rattle.std.proofs.lemmas.Result.{IfOk-from_err}
use Rattle.registry.proofs.registry.Registry.shared.Goals as goal

pub returns-in_err-clone-in-Some : goal.returns-in_err-clone-in-Some
returns-in_err-clone-in-Some c = IfOk-from_err c.from_residual.result _ c.from_residual.ensures.0

pub returns-in_err-clone-in-Some-2 : goal.returns-in_err-clone-in-Some-2
returns-in_err-clone-in-Some-2 c = IfOk-from_err c.from_residual-in_err-clone-in-Some-2.result _ c.from_residual-in_err-clone-in-Some-2.ensures.0

pub returns-in_err-clone-in-Some-3 : goal.returns-in_err-clone-in-Some-3
returns-in_err-clone-in-Some-3 c = IfOk-from_err c.from_residual-in_err-clone-in-Some-3.result _ c.from_residual-in_err-clone-in-Some-3.ensures.0
