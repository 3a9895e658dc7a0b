use Rattle.derivations.specs.Derivations.{NoneAllowed}
use Rattle.checker.proofs.replaying.barred_of.Given as goal

abbrev pub invariant-loop-ordinal : goal.invariant-loop-ordinal
invariant-loop-ordinal l = NoneAllowed l.task.registry.now.packages l.task.request.now l.pkg l.barred
