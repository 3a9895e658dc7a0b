use Rattle.walk.proofs.OneListing.{list-selects}
use Rattle.walk.proofs.laws.a_list_in_order_is_its_selection.Goals as goal

pub returns : goal.returns
returns c = list-selects
