use Rattle.std.proofs.Common.{reverse}
use Rattle.checker.specs.Taking.{lines_at}
use Rattle.checker.proofs.Taken.{AreStepsTo}
use Rattle.checker.proofs.Walking.{IsWalk, left}
use Rattle.checker.proofs.cutting.numbered_steps.Given as goal

abbrev pub invariant-walk : goal.invariant-walk
invariant-walk l = IsWalk l.known l.place l.numbers.items (lines_at l.known l.steps.items) (reverse l.users.items) l.at × AreStepsTo l.known l.numbers.items l.steps.items

abbrev pub decreases-walk : goal.decreases-walk
decreases-walk l = left l.known l.numbers.items l.at
