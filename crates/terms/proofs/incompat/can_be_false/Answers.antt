use Rattle.terms.proofs.TermLists.{can_be_false-outside}
use Rattle.terms.proofs.incompat.can_be_false.Goals as goal

pub returns-in-NotIn-clause-exactly : goal.returns-in-NotIn-clause-exactly
returns-in-NotIn-clause-exactly c = rw c.in-NotIn.is (can_be_false-outside c.in-NotIn.set c.is_empty.result c.is_empty.ensures)
