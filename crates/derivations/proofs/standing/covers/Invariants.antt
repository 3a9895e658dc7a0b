use Rattle.derivations.proofs.Published.{CoversBelow}
use Rattle.derivations.proofs.standing.covers.Given as goal

abbrev pub invariant-loop-ordinal : goal.invariant-loop-ordinal
invariant-loop-ordinal l = CoversBelow l.registry.packages l.premise l.ordinal
