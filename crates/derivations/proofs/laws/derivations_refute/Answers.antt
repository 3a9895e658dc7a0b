use Rattle.derivations.proofs.Soundness.{NoSelection-IsDerivation}
use Rattle.derivations.proofs.laws.derivations_refute.Goals as goal

pub returns : goal.returns
returns c = NoSelection-IsDerivation c.matching_is_what_meets.ensures
