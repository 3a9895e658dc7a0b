use Rattle.std.proofs.Common.{arith}
use Rattle.std.proofs.lemmas.Bool.Decides.{nat_tests}
use Rattle.lines.proofs.LineLemmas.{lines_of-cut, lines_of-whole}
use Rattle.lines.proofs.slices.first_line.Goals as goal

pub returns-in-Some-clause-lines : goal.returns-in-Some-clause-lines
returns-in-Some-clause-lines c = lines_of-cut c.args.bytes.now c.in-Some.feed c.in-Some.ensures.before c.in-Some.ensures.found

pub returns-in-None-clause-lines : goal.returns-in-None-clause-lines
returns-in-None-clause-lines c = lines_of-whole c.args.bytes.now c.split_at.result.0.now c.split_at.result.1.now c.in-None.ensures.none (grind (arith, nat_tests)) c.split_at.ensures.front c.split_at.ensures.back
