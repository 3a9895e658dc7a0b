use Rattle.std.proofs.lemmas.Result.{IfOk-from_err}
use Rattle.checker.proofs.members.place_of.Goals as goal

-- where memory is refused

pub returns-in_err-cloned-in-Premise : goal.returns-in_err-cloned-in-Premise
returns-in_err-cloned-in-Premise c = let failed = c.from_residual in record { extends = IfOk-from_err failed.result _ failed.ensures.0; place = IfOk-from_err failed.result _ failed.ensures.0 }
