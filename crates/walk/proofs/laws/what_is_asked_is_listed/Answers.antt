use Rattle.walk.proofs.Wholes.{nothing-next}
use Rattle.walk.proofs.laws.what_is_asked_is_listed.Goals as goal

pub returns : goal.returns
returns c = nothing-next
