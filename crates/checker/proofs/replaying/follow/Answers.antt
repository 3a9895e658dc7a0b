use Rattle.std.proofs.lemmas.Result.{IfOk-from_err}
use Rattle.facts.specs.Pushing.{extends_on, same_lines}
use Rattle.checker.proofs.replaying.follow.Goals as goal

pub returns-in_default : goal.returns-in_default
returns-in_default c = same_lines

pub loop-step-init : goal.loop-step-init
loop-step-init c = same_lines

pub loop-step-preserved : goal.loop-step-preserved
loop-step-preserved c = extends_on c.loop-step.invariant c.in_ok-at.ensures

pub returns-then-count-room : goal.returns-then-count-room
returns-then-count-room c = extends_on c.loop-step.invariant c.in_ok-at.ensures

-- where memory is refused

pub returns-in_err-at : goal.returns-in_err-at
returns-in_err-at c = IfOk-from_err c.from_residual.result _ c.from_residual.ensures.0
