use Rattle.by_name.proofs.NumberLemmas.{one_numbering}
use Rattle.by_name.proofs.laws.names_stand_for_one.Goals as goal

pub returns : goal.returns
returns c = one_numbering
