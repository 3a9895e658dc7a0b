use Rattle.std.proofs.Common.{◌≡◌, ◌<◌, ℕ}
use Rattle.std.specs.Prelude.{Some, slice_get}
use Rattle.walk.specs.Choosing.{choice_of}
use Rattle.walk.proofs.newest.are_chosen.Given as goal

abbrev pub invariant-loop-i : goal.invariant-loop-i
invariant-loop-i l = (j : ℕ) (e : ℕ × ℕ) → j < l.i → slice_get l.list j ≡ Some e → choice_of l.found.entries e.0 ≡ Some e.1
