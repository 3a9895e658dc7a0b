use Rattle.answers.proofs.answer.answer_line.Goals as goal

pub returns : goal.returns
returns g c = c.answer_read.ensures c.args.settings c.args.line.now (c.within-read.ensures c.args.line.now c.read.ensures)
