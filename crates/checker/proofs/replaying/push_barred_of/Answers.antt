use Rattle.std.proofs.lemmas.Result.{IfOk-from_err}
use Rattle.facts.specs.Pushing.{same_lines}
use Rattle.checker.proofs.replaying.push_barred_of.Goals as goal

pub returns-then-not-is_package : goal.returns-then-not-is_package
returns-then-not-is_package c = same_lines

-- where memory is refused

pub returns-in_err-barred : goal.returns-in_err-barred
returns-in_err-barred c = IfOk-from_err c.from_residual.result _ c.from_residual.ensures.0

pub returns-in_err-push_barred : goal.returns-in_err-push_barred
returns-in_err-push_barred c = IfOk-from_err c.from_residual-in_err-push_barred.result _ c.from_residual-in_err-push_barred.ensures.0
