use Rattle.std.proofs.Common.{◌≤◌, take}
use Rattle.search.specs.Trail.{through, IsPlaceOn}
use Rattle.search.specs.Reach.{Holds}
use Rattle.search.proofs.satisfier.shortest_on.Given as goal

abbrev pub invariant-walk : goal.invariant-walk
invariant-walk l = record {
  on : IsPlaceOn l.trail.made.items l.entry.0 l.place;
  holds : Holds (take (through l.place) l.trail.made.items) l.entry.0 l.entry.1;
  within : through l.place ≤ through l.fn.last;
}

abbrev pub decreases-walk : goal.decreases-walk
decreases-walk l = through l.place
