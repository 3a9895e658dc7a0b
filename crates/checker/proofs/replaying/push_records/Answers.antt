use Rattle.std.proofs.lemmas.Result.{IfOk-from_err}
use Rattle.facts.specs.Pushing.{extends_on, same_lines}
use Rattle.checker.proofs.replaying.push_records.Goals as goal

pub loop-record-init : goal.loop-record-init
loop-record-init c = same_lines

pub loop-record-preserved : goal.loop-record-preserved
loop-record-preserved c = extends_on c.loop-record.invariant c.in_ok-last.ensures

pub returns-in_default : goal.returns-in_default
returns-in_default c = extends_on c.loop-record.invariant c.in_ok-last.ensures

-- where memory is refused

pub returns-in_err-last : goal.returns-in_err-last
returns-in_err-last c = IfOk-from_err c.from_residual.result _ c.from_residual.ensures.0

pub returns-in_err-push : goal.returns-in_err-push
returns-in_err-push c = IfOk-from_err c.from_residual-in_err-push.result _ c.from_residual-in_err-push.ensures.0
