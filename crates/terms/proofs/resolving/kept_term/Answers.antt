use Rattle.std.proofs.lemmas.Result.{IfOk-from_err}
use Rattle.terms.proofs.resolving.kept_term.Goals as goal

pub returns-in_err-term : goal.returns-in_err-term
returns-in_err-term c = let failed = c.from_residual in record { exact = IfOk-from_err failed.result _ failed.ensures.0; kept = IfOk-from_err failed.result _ failed.ensures.0; ascending = IfOk-from_err failed.result _ failed.ensures.0 }
