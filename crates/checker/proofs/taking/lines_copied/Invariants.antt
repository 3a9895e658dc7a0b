use Rattle.std.proofs.Common.{◌≡◌, ◌++◌, length}
use Rattle.std.specs.Vec.Iter.{into_iter_items}
use Rattle.checker.specs.Taking.{lines_at, ArePlaced}
use Rattle.checker.proofs.taking.lines_copied.Given as goal

-- the lines so far, and those that the steps to come make
abbrev pub invariant-loop-step : goal.invariant-loop-step
invariant-loop-step l = record {
  split : l.lines.items ++ lines_at l.known (into_iter_items l.step-iterator) ≡ lines_at l.known (into_iter_items l.initial.step-iterator);
  placed : ArePlaced (length l.known) (into_iter_items l.step-iterator);
}
