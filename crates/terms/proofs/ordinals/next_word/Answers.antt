use Rattle.terms.proofs.Cursor.{next-cursor, next-same, ordinals_of-none}
use Rattle.terms.proofs.ordinals.next_word.Goals as goal

pub returns-in_err-first-clause-none : goal.returns-in_err-first-clause-none
returns-in_err-first-clause-none c = rw c.from_residual.ensures (ordinals_of-none c.args.word c.args.rest.now c.if-word-ne0.false c.in_err-first.ensures.cases)

pub returns-clause-same : goal.returns-clause-same
returns-clause-same c = next-same c.args.word c.in_ok-first.first.now c.args.rest.now c.in_ok-first.others.now c.if-word-ne0.false c.in_ok-first.ensures.cases.0

pub returns-clause-lawful : goal.returns-clause-lawful
returns-clause-lawful c = next-cursor c.in_ok-first.first.now c.args.rest.now c.in_ok-first.others.now c.requires.words c.in_ok-first.ensures.cases.0
