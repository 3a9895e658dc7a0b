use Rattle.derivations.proofs.Holding.{kept-hold}
use Rattle.derivations.proofs.laws.kept_lines_hold.Goals as goal

pub returns : goal.returns
returns c = kept-hold c.matching_is_what_meets.ensures
