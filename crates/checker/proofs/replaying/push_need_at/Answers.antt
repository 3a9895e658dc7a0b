use Rattle.std.proofs.Common.{ap, arith, length}
use Rattle.std.proofs.lemmas.Result.{IfOk-from_err}
use Rattle.facts.specs.Pushing.{same_lines}
use Rattle.checker.proofs.replaying.push_need_at.Goals as goal

pub returns-then-index-needs : goal.returns-then-index-needs
returns-then-index-needs c = same_lines

pub push_need-requires : goal.push_need-requires
push_need-requires c = omega (arith, c.if-index-needs.false, ap length c.needs.ensures.needs)

-- where memory is refused

pub returns-in_err-push_need : goal.returns-in_err-push_need
returns-in_err-push_need c = IfOk-from_err c.from_residual.result _ c.from_residual.ensures.0
