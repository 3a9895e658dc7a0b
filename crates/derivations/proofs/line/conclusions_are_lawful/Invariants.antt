use Rattle.std.proofs.Common.{take}
use Rattle.derivations.specs.Derivations.{AreIncompats}
use Rattle.derivations.proofs.line.conclusions_are_lawful.Given as goal

abbrev pub invariant-loop-line : goal.invariant-loop-line
invariant-loop-line l = AreIncompats (take l.line-index l.lines)
