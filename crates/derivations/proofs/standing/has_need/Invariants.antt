use Rattle.std.proofs.Common.{◌≡◌, ℕ, ◌<◌}
use Rattle.std.specs.Prelude.{slice_get, Some}
use Rattle.versions.specs.Words.{Text}
use Rattle.registry.specs.Registry.{number_of}
use Rattle.derivations.proofs.standing.has_need.Given as goal

abbrev pub invariant-loop-entry : goal.invariant-loop-entry
invariant-loop-entry l = (i : ℕ) (name : Text) → i < l.entry-index → slice_get l.needs i ≡ Some (name, l.need) → number_of l.registry.packages name ≡ Some l.target → ⊥
