use Rattle.std.proofs.Common.{take, []}
use Rattle.derivations.specs.Derivations.{AreDerivedBy, Yields}
use Rattle.derivations.proofs.following.is_each_derived.Given as goal

abbrev pub invariant-loop-i : goal.invariant-loop-i
invariant-loop-i l = AreDerivedBy (Yields l.registry.packages l.request) [] (take l.i l.lines)
