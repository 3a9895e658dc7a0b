use Rattle.derivations.proofs.Lasting.{Holds-IsLearnt}
use Rattle.derivations.proofs.laws.learnt_holds.Goals as goal

pub returns : goal.returns
returns c = Holds-IsLearnt
