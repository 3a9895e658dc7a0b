use Rattle.std.proofs.lemmas.Result.{IfOk-from_err}
use Rattle.facts.proofs.facts.push_barred.Goals as goal

-- where memory is refused

pub returns-in_err-conclusion : goal.returns-in_err-conclusion
returns-in_err-conclusion c = let failed = c.from_residual-in_err-conclusion in record { extends = IfOk-from_err failed.result _ failed.ensures.0; place = IfOk-from_err failed.result _ failed.ensures.0 }

pub returns-in_err-copy : goal.returns-in_err-copy
returns-in_err-copy c = let failed = c.from_residual in record { extends = IfOk-from_err failed.result _ failed.ensures.0; place = IfOk-from_err failed.result _ failed.ensures.0 }
