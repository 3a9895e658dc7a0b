use Rattle.terms.proofs.TermLists.{single-lawful}
use Rattle.terms.proofs.incompat.Incompat.single.Goals as goal

pub invariant_of-result : goal.invariant_of-result
invariant_of-result c = rw (c.in_ok-push_unless_always.ensures.items, c.in_ok-terms.ensures.items) (single-lawful c.args.pkg c.args.term c.in_ok-push_unless_always.ensures.ascending)
