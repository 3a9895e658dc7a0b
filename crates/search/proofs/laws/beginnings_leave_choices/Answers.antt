use Rattle.search.proofs.Choices.{beginnings}
use Rattle.search.proofs.laws.beginnings_leave_choices.Goals as goal

pub returns : goal.returns
returns c = beginnings
