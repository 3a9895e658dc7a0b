use Rattle.std.proofs.Common.{◌+◌, ◌-◌, ◌^◌, length}
use Rattle.walk.specs.Walks.{IsWalk}
use Rattle.walk.proofs.walking.reach_into.Given as goal

abbrev pub invariant-walk : goal.invariant-walk
invariant-walk g l = IsWalk l.registry.packages l.request (g.C.Chooser.chooses l.chooser) l.found.entries l.left.items

-- what may still be found, of which there are at most as many as a `usize` counts, and what is left
abbrev pub decreases-walk : goal.decreases-walk
decreases-walk g l = (2 ^ 64 - length l.found.entries) + length l.left.items
