use Rattle.std.proofs.Common.{◌≡◌, ◌<◌, ℕ, false, length}
use Rattle.std.specs.Prelude.{slice_get}
use Rattle.store.specs.Slots.{AreThinned, is_met, kept, passes_at}
use Rattle.store.proofs.slots.drop_any.Given as goal

abbrev pub invariant-loop-place : goal.invariant-loop-place
invariant-loop-place l =
    AreThinned (is_met l.pkg l.version) l.initial.slots l.slots
    × (l.left ≡ length (kept l.slots))
    × ((k : ℕ) → k < l.place → passes_at (is_met l.pkg l.version) (slice_get l.slots k) ≡ false)
