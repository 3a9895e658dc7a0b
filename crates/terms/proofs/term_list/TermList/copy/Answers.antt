use Rattle.std.proofs.lemmas.Result.{IfOk-from_err}
use Rattle.terms.proofs.term_list.TermList.copy.Goals as goal

pub returns-in_err-copy-in-Two : goal.returns-in_err-copy-in-Two
returns-in_err-copy-in-Two c = IfOk-from_err c.from_residual.result _ c.from_residual.ensures.0

pub returns-in_err-copy-in-Two-2 : goal.returns-in_err-copy-in-Two-2
returns-in_err-copy-in-Two-2 c = IfOk-from_err c.from_residual-in_err-copy-in-Two-2.result _ c.from_residual-in_err-copy-in-Two-2.ensures.0

pub returns-in_err-copied-in-Others : goal.returns-in_err-copied-in-Others
returns-in_err-copied-in-Others c = IfOk-from_err c.from_residual-in_err-copied-in-Others.result _ c.from_residual-in_err-copied-in-Others.ensures.0
