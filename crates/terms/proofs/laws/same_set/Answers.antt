use Rattle.terms.proofs.SameSets.{same_members}
use Rattle.terms.proofs.laws.same_set.Goals as goal

pub returns : goal.returns
returns c = same_members 0
