use Rattle.std.proofs.Common.{◌-◌}
use Rattle.releases.proofs.Searching.{IsSearching}
use Rattle.releases.specs.Releases.{versions_of}
use Rattle.releases.proofs.rising.place_of.Given as goal

abbrev pub invariant-halve : goal.invariant-halve
invariant-halve l = IsSearching (versions_of l.releases) l.rising l.version l.low l.high

abbrev pub decreases-halve : goal.decreases-halve
decreases-halve l = l.high - l.low
