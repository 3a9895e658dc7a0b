use Rattle.derivations.proofs.Refuting.{lines_refute}
use Rattle.derivations.proofs.laws.kept_lines_refute.Goals as goal

pub returns : goal.returns
returns c = lines_refute c.matching_is_what_meets.ensures
