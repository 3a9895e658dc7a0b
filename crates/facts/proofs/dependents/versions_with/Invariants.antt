use Rattle.std.proofs.Common.{◌≡◌, ◌+◌, ◌↔◌, ℕ}
use Rattle.std.specs.Prelude.{Contains, IsTrue}
use Rattle.registry.specs.Registry.{needs_of}
use Rattle.facts.proofs.Publishing.{HaveBelow}
use Rattle.facts.proofs.dependents.versions_with.Given as goal

abbrev pub invariant-loop-ordinal : goal.invariant-loop-ordinal
invariant-loop-ordinal l = record {
  set : HaveBelow l.task.registry.now.packages l.pkg (l.name, l.need) l.set l.ordinal;
  last : (k : ℕ) → k + 1 ≡ l.ordinal → IsTrue l.is_one ↔ Contains (needs_of l.task.registry.now.packages l.pkg k) (l.name, l.need);
}
