use Rattle.std.proofs.Common.{take, []}
use Rattle.derivations.specs.Derivations.{AreDerivedBy}
use Rattle.derivations.specs.Learning.{Offers}
use Rattle.derivations.proofs.following.are_offered.Given as goal

abbrev pub invariant-loop-i : goal.invariant-loop-i
invariant-loop-i l = AreDerivedBy Offers [] (take l.i l.lines)
