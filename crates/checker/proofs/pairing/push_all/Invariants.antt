use Rattle.checker.specs.Pairing.{Grows}
use Rattle.checker.proofs.pairing.push_all.Given as goal

abbrev pub invariant-halve : goal.invariant-halve
invariant-halve l = Grows l.fn.lines.items l.lines.items
