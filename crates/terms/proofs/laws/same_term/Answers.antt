use Rattle.terms.proofs.SameSets.{same_term}
use Rattle.terms.proofs.laws.same_term.Goals as goal

pub returns : goal.returns
returns c = same_term
