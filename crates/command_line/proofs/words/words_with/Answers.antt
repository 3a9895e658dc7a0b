use Rattle.std.proofs.lemmas.Result.{IfOk-from_err}
use Rattle.command_line.proofs.words.words_with.Goals as goal

pub returns-in_err-copied-in-None-clause-ok : goal.returns-in_err-copied-in-None-clause-ok
returns-in_err-copied-in-None-clause-ok c = IfOk-from_err c.from_residual.result _ c.from_residual.ensures.0

pub returns-in_err-copied-in-None-2-clause-ok : goal.returns-in_err-copied-in-None-2-clause-ok
returns-in_err-copied-in-None-2-clause-ok c = IfOk-from_err c.from_residual-in_err-copied-in-None-2.result _ c.from_residual-in_err-copied-in-None-2.ensures.0

pub returns-in_err-from_str-in-Some-clause-ok : goal.returns-in_err-from_str-in-Some-clause-ok
returns-in_err-from_str-in-Some-clause-ok c = IfOk-from_err c.from_residual-in_err-from_str-in-Some.result _ c.from_residual-in_err-from_str-in-Some.ensures.0
