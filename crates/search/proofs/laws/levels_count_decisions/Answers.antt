use Rattle.search.proofs.Saying.{level_counts}
use Rattle.search.proofs.laws.levels_count_decisions.Goals as goal

pub returns : goal.returns
returns c = level_counts
