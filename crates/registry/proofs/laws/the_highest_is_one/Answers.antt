use Rattle.registry.proofs.Finding.{highest-once}
use Rattle.registry.proofs.laws.the_highest_is_one.Goals as goal

pub returns : goal.returns
returns c = highest-once c.precedence_is_a_total_preorder.ensures c.equal_precedence_is_an_equivalence.ensures.equivalence c.equal_precedence_is_an_equivalence.ensures.tie
