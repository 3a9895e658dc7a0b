use Rattle.std.proofs.Common.{◌≡◌, ◌<◌, ℕ}
use Rattle.std.specs.Prelude.{Some, slice_get}
use Rattle.walk.specs.Choosing.{choice_of}
use Rattle.walk.specs.Walks.{IsChecked}
use Rattle.walk.proofs.checking.is_met_by.Given as goal

abbrev pub invariant-loop-place : goal.invariant-loop-place
invariant-loop-place l = (j : ℕ) (e : ℕ × ℕ) → j < l.place → slice_get l.found.entries j ≡ Some e → IsChecked l.registry.packages l.request (choice_of l.found.entries) e.0 e.1
