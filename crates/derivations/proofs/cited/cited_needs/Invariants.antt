use Rattle.derivations.specs.Causes.{AreNeedFacts}
use Rattle.derivations.proofs.cited.cited_needs.Given as goal

abbrev pub invariant-loop-line : goal.invariant-loop-line
invariant-loop-line l = AreNeedFacts l.registry.packages l.request l.kept.items
