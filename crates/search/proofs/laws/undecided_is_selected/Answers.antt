use Rattle.search.proofs.StillOpen.{undecided-selected}
use Rattle.search.proofs.laws.undecided_is_selected.Goals as goal

pub returns : goal.returns
returns c = undecided-selected
