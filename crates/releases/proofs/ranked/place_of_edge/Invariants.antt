use Rattle.std.proofs.Common.{◌-◌, length}
use Rattle.releases.specs.Releases.{versions_of}
use Rattle.releases.specs.Rising.{is_before_edge, risen}
use Rattle.releases.proofs.Between.{IsBisecting}
use Rattle.releases.proofs.ranked.place_of_edge.Given as goal

abbrev pub invariant-halve : goal.invariant-halve
invariant-halve l = IsBisecting (λ i. is_before_edge l.edge l.bounds (risen (versions_of l.releases) l.rising i)) (length l.rising) l.low l.high

abbrev pub decreases-halve : goal.decreases-halve
decreases-halve l = l.high - l.low
