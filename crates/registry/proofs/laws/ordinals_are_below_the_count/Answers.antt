use Rattle.registry.proofs.PackageLemmas.{published-below, published-positive}
use Rattle.registry.proofs.RequestLemmas.{published-numbered, unpublished-from}
use Rattle.registry.proofs.laws.ordinals_are_below_the_count.Goals as goal

pub returns-clause-published : goal.returns-clause-published
returns-clause-published c = published-below

pub returns-clause-no_other : goal.returns-clause-no_other
returns-clause-no_other c = unpublished-from

pub returns-clause-numbered : goal.returns-clause-numbered
returns-clause-numbered c = λ packages p k e. (published-positive packages p k e, published-numbered packages p k e)
