use Rattle.derivations.proofs.Ends.{ends_at}
use Rattle.derivations.proofs.laws.empty_is_no_fact.Goals as goal

pub returns : goal.returns
returns c = ends_at
