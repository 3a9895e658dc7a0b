use Rattle.std.proofs.Common.{◌≡◌, ◌<◌, ◌+◌, ℕ, false, slice_index}
use Rattle.std.specs.Map.{keys_of}
use Rattle.std.specs.Str.{bytes_eq}
use Rattle.registry.specs.ByName.{name_at}
use Rattle.registry.proofs.by_name.repeats.Given as goal

abbrev pub invariant-loop-i : goal.invariant-loop-i
invariant-loop-i g l = (k : ℕ) → k + 1 < l.i → bytes_eq (name_at (keys_of l.lines) (slice_index l.places k)) (name_at (keys_of l.lines) (slice_index l.places (k + 1))) ≡ false
