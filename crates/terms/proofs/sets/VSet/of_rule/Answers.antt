use Rattle.std.proofs.lemmas.Result.{IfOk-from_err}
use Rattle.terms.proofs.sets.VSet.of_rule.Goals as goal

pub returns-in_err-combined : goal.returns-in_err-combined
returns-in_err-combined c = let failed = c.from_residual in record { exact = IfOk-from_err failed.result _ failed.ensures.0; ascending = IfOk-from_err failed.result _ failed.ensures.0 }
