use Rattle.std.proofs.lemmas.Result.{IfOk-from_err}
use Rattle.terms.proofs.term.Term.or.Goals as goal

pub returns-in_err-of_rule-in-In-In : goal.returns-in_err-of_rule-in-In-In
returns-in_err-of_rule-in-In-In c = let failed = c.from_residual in record { exact = IfOk-from_err failed.result _ failed.ensures.0; ascending = IfOk-from_err failed.result _ failed.ensures.0 }

pub returns-in_err-of_rule-in-In-NotIn : goal.returns-in_err-of_rule-in-In-NotIn
returns-in_err-of_rule-in-In-NotIn c = let failed = c.from_residual-in_err-of_rule-in-In-NotIn in record { exact = IfOk-from_err failed.result _ failed.ensures.0; ascending = IfOk-from_err failed.result _ failed.ensures.0 }

pub returns-in_err-of_rule-in-NotIn-In : goal.returns-in_err-of_rule-in-NotIn-In
returns-in_err-of_rule-in-NotIn-In c = let failed = c.from_residual-in_err-of_rule-in-NotIn-In in record { exact = IfOk-from_err failed.result _ failed.ensures.0; ascending = IfOk-from_err failed.result _ failed.ensures.0 }

pub returns-in_err-of_rule-in-NotIn-NotIn : goal.returns-in_err-of_rule-in-NotIn-NotIn
returns-in_err-of_rule-in-NotIn-NotIn c = let failed = c.from_residual-in_err-of_rule-in-NotIn-NotIn in record { exact = IfOk-from_err failed.result _ failed.ensures.0; ascending = IfOk-from_err failed.result _ failed.ensures.0 }
