use Rattle.std.proofs.lemmas.Result.{IfOk-from_err}
use Rattle.facts.specs.Pushing.{same_lines}
use Rattle.checker.proofs.replaying.push_follows.Goals as goal

pub returns-in_default : goal.returns-in_default
returns-in_default c = same_lines

-- where memory is refused

pub returns-in_err-place : goal.returns-in_err-place
returns-in_err-place c = IfOk-from_err c.from_residual.result _ c.from_residual.ensures.0

pub returns-in_err-push : goal.returns-in_err-push
returns-in_err-push c = IfOk-from_err c.from_residual-in_err-push.result _ c.from_residual-in_err-push.ensures.0
