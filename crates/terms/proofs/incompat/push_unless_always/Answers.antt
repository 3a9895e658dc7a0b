use Rattle.terms.proofs.TermLists.{left_out}
use Rattle.terms.proofs.incompat.push_unless_always.Goals as goal

pub returns-else-can_be_false-clause-items : goal.returns-else-can_be_false-clause-items
returns-else-can_be_false-clause-items c = left_out c.args.terms.now.items c.args.pkg c.args.term c.if-can_be_false.ensures.exactly.1
