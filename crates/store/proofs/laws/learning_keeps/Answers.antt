use Rattle.store.proofs.Storing.{learning-keeps}
use Rattle.store.proofs.laws.learning_keeps.Goals as goal

pub returns : goal.returns
returns c = learning-keeps c.matching_is_what_meets.ensures
