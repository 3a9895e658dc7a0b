use Rattle.std.proofs.lemmas.Result.{IfOk-from_err}
use Rattle.terms.proofs.resolving.joined_term.Goals as goal

pub returns-in_err-or-in-Some-Some : goal.returns-in_err-or-in-Some-Some
returns-in_err-or-in-Some-Some c = let failed = c.from_residual in record { exact = IfOk-from_err failed.result _ failed.ensures.0; ascending = IfOk-from_err failed.result _ failed.ensures.0 }

pub returns-in_err-and-in-Some-Some : goal.returns-in_err-and-in-Some-Some
returns-in_err-and-in-Some-Some c = let failed = c.from_residual-in_err-and-in-Some-Some in record { exact = IfOk-from_err failed.result _ failed.ensures.0; ascending = IfOk-from_err failed.result _ failed.ensures.0 }

pub returns-in_err-copy-in-Some-None : goal.returns-in_err-copy-in-Some-None
returns-in_err-copy-in-Some-None c = let failed = c.from_residual-in_err-copy-in-Some-None in record { exact = IfOk-from_err failed.result _ failed.ensures.0; ascending = IfOk-from_err failed.result _ failed.ensures.0 }
