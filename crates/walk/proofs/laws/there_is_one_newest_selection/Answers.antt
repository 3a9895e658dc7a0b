use Rattle.walk.proofs.NewestLaws.{newest-once}
use Rattle.walk.proofs.laws.there_is_one_newest_selection.Goals as goal

pub returns : goal.returns
returns c = newest-once c.the_highest_is_one.ensures c.precedence_is_a_total_preorder.ensures
