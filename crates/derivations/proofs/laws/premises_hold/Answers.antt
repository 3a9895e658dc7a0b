use Rattle.derivations.proofs.Soundness.{Holds-Stands}
use Rattle.derivations.proofs.laws.premises_hold.Goals as goal

pub returns : goal.returns
returns c = Holds-Stands
