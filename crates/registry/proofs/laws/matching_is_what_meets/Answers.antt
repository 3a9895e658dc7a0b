use Rattle.registry.proofs.MatchingSets.{has-matching}
use Rattle.registry.proofs.laws.matching_is_what_meets.Goals as goal

pub returns : goal.returns
returns c = has-matching
