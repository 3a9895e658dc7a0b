use Rattle.std.proofs.lemmas.Result.{IfOk-from_err}
use Rattle.facts.specs.Pushing.{same_lines}
use Rattle.checker.proofs.replaying.push_member_at.Goals as goal

pub returns-in-None : goal.returns-in-None
returns-in-None c = same_lines

-- where memory is refused

pub returns-in_err-push_learnt-in-Some : goal.returns-in_err-push_learnt-in-Some
returns-in_err-push_learnt-in-Some c = IfOk-from_err c.from_residual.result _ c.from_residual.ensures.0
