use Rattle.std.proofs.Common.{◌≡◌, ℕ, true}
use Rattle.std.specs.Prelude.{Contains}
use Rattle.terms.specs.Sets.{has}
use Rattle.registry.specs.Registry.{needs_of}
use Rattle.facts.proofs.dependents.versions_among.Given as goal

abbrev pub invariant-loop-place : goal.invariant-loop-place
invariant-loop-place l = record {
  own : has l.set l.ordinal ≡ true;
  each : (k : ℕ) → has l.set k ≡ true → Contains (needs_of l.task.registry.now.packages l.pkg k) l.entry;
}
