use Rattle.releases.proofs.Between.{bisecting-begin}
use Rattle.releases.proofs.ranked.place_of_edge.Goals as goal

pub halve-init : goal.halve-init
halve-init c = bisecting-begin _ _
