use Rattle.std.proofs.Common.{take}
use Rattle.search.proofs.TermsSeen.{Leaves}
use Rattle.search.proofs.satisfaction.standing_of.Given as goal

abbrev pub invariant-loop-entry : goal.invariant-loop-entry
invariant-loop-entry l = Leaves l.trail.made.items (take l.entry-index l.terms) l.out
