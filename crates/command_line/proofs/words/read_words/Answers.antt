use Rattle.std.proofs.Common.{◌⊎◌, IfOk, List, Option, subst}
use Rattle.std.proofs.lemmas.Result.{IfOk-from_err, IfOk-weaker}
use Rattle.clap.specs.Words.{Row, Text}
use Rattle.command_line.specs.Words.{HasManyFiles, HasMixedFiles, Says}
use Rattle.command_line.specs.declared.words.Words.{Words}
use Rattle.command_line.proofs.words.read_words.Goals as goal

pub returns-clause-ok : goal.returns-clause-ok
returns-clause-ok c = subst (λ (given : Option (Text × List Row)). IfOk c.words_of.result (λ (w : Words). Says w given)) c.in_ok-matches.ensures.ok c.words_of.ensures.ok

pub returns-clause-taken : goal.returns-clause-taken
returns-clause-taken c = IfOk-weaker c.words_of.result _ _ (λ w says. c.in_ok-matches.ensures.taken) c.words_of.ensures.ok

pub returns-clause-bad : goal.returns-clause-bad
returns-clause-bad c = λ bad none.
    subst (λ (given : Option (Text × List Row)). HasManyFiles given ⊎ HasMixedFiles given) c.in_ok-matches.ensures.ok (c.words_of.ensures.bad bad)

pub returns-clause-refused : goal.returns-clause-refused
returns-clause-refused c = λ bad taken.
    subst (λ (given : Option (Text × List Row)). HasManyFiles given ⊎ HasMixedFiles given) c.in_ok-matches.ensures.ok (c.words_of.ensures.bad bad)

pub returns-clause-help : goal.returns-clause-help
returns-clause-help c = λ help. absurd (c.words_of.ensures.no_help help)

pub returns-clause-helped : goal.returns-clause-helped
returns-clause-helped c = λ bad asked. cc (c.in_ok-matches.ensures.taken, asked)

pub returns-in_err-matches-clause-ok : goal.returns-in_err-matches-clause-ok
returns-in_err-matches-clause-ok c = IfOk-from_err c.from_residual.result _ c.from_residual.ensures.0

pub returns-in_err-matches-clause-taken : goal.returns-in_err-matches-clause-taken
returns-in_err-matches-clause-taken c = IfOk-from_err c.from_residual.result _ c.from_residual.ensures.0
