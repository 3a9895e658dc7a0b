use Rattle.registry.proofs.GrowthLemmas.{number_of-with_listed}
use Rattle.registry.proofs.laws.numbers_last.Goals as goal

pub returns : goal.returns
returns c = number_of-with_listed
