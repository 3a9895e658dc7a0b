use Rattle.std.proofs.Common.{◌≡◌, length}
use Rattle.search.specs.Assignments.{upto, LevelsFrom}
use Rattle.search.specs.Trail.{IsTrail}
use Rattle.search.proofs.trail.go_back.Given as goal

abbrev pub invariant-back : goal.invariant-back
invariant-back l = record {
  kept : IsTrail l.trail;
  levels : LevelsFrom 0 l.trail.made.items;
  same : upto l.level l.trail.made.items ≡ upto l.level l.initial.trail.made.items;
}

abbrev pub decreases-back : goal.decreases-back
decreases-back l = length l.trail.made.items
