use Rattle.std.proofs.Common.{◌≤◌, ◌<◌, ℕ, false, length, get_or}
use Rattle.releases.proofs.rising.highest_of.Given as goal

abbrev pub invariant-walk : goal.invariant-walk
invariant-walk g l = (l.left ≤ length l.rising) × ((j : ℕ) → l.left ≤ j → j < length l.rising → goal.F-post g l.passes (get_or l.rising j 0) false)

abbrev pub decreases-walk : goal.decreases-walk
decreases-walk g l = l.left
