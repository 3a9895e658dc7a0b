use Rattle.terms.proofs.SameIncompats.{same_incompat}
use Rattle.terms.proofs.laws.same_incompat.Goals as goal

pub returns : goal.returns
returns c = same_incompat 0
