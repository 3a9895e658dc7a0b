use Rattle.std.proofs.Common.{◌≡◌, ℕ, ◌<◌}
use Rattle.std.specs.Prelude.{slice_get, Some}
use Rattle.facts.proofs.dependents.has_entry.Given as goal

-- none of those before is the one
abbrev pub invariant-loop-entry : goal.invariant-loop-entry
invariant-loop-entry l = (i : ℕ) → i < l.entry-index → slice_get l.needs i ≡ Some (l.name, l.need) → ⊥
