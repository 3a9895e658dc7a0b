use Rattle.derivations.proofs.Soundness.{Holds-Follows}
use Rattle.derivations.proofs.laws.resolvents_hold.Goals as goal

pub returns : goal.returns
returns c = Holds-Follows
