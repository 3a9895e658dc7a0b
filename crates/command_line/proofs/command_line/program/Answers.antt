use Rattle.std.proofs.lemmas.Result.{IfOk-from_err}
use Rattle.command_line.proofs.command_line.program.Goals as goal

pub returns-in_err-bare_program : goal.returns-in_err-bare_program
returns-in_err-bare_program c = IfOk-from_err c.from_residual.result _ c.from_residual.ensures.0

pub returns-in_err-serving : goal.returns-in_err-serving
returns-in_err-serving c = IfOk-from_err c.from_residual-in_err-serving.result _ c.from_residual-in_err-serving.ensures.0
