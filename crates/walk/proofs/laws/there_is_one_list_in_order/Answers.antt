use Rattle.walk.proofs.OneListing.{one-list}
use Rattle.walk.proofs.laws.there_is_one_list_in_order.Goals as goal

pub returns : goal.returns
returns c = one-list
