use Rattle.std.proofs.lemmas.Result.{IfOk-from_err}
use Rattle.checker.proofs.replaying.replay_learnt.Goals as goal

-- where memory is refused

pub returns-in_err-known : goal.returns-in_err-known
returns-in_err-known c = IfOk-from_err c.from_residual.result _ c.from_residual.ensures.0
