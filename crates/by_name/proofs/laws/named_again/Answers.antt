use Rattle.by_name.proofs.AgainLemmas.{named_again}
use Rattle.by_name.proofs.laws.named_again.Goals as goal

pub returns : goal.returns
returns c = named_again
