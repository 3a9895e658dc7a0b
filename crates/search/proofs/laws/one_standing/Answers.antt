use Rattle.search.proofs.Standings.{stands-one}
use Rattle.search.proofs.laws.one_standing.Goals as goal

pub returns : goal.returns
returns c = stands-one
