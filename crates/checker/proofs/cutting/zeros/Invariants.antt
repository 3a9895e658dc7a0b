use Rattle.std.proofs.Common.{◌≡◌, ◌≤◌, ◌-◌, ℕ, length, get_or}
use Rattle.checker.proofs.cutting.zeros.Given as goal

abbrev pub invariant-fill : goal.invariant-fill
invariant-fill l = record { size : length l.list.items ≤ l.count; zeros : (k : ℕ) → get_or l.list.items k 0 ≡ 0 }

abbrev pub decreases-fill : goal.decreases-fill
decreases-fill l = l.count - length l.list.items
