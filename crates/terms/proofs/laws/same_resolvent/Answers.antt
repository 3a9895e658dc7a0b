use Rattle.terms.proofs.SameIncompats.{same_resolvent}
use Rattle.terms.proofs.laws.same_resolvent.Goals as goal

pub returns : goal.returns
returns c = same_resolvent
