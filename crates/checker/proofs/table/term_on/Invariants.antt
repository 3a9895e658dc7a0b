use Rattle.std.proofs.Common.{◌≡◌, drop}
use Rattle.terms.specs.Incompats.{term_on}
use Rattle.checker.proofs.table.term_on.Given as goal

abbrev pub invariant-loop-other : goal.invariant-loop-other
invariant-loop-other l = term_on (drop l.other-index l.terms) l.pkg ≡ term_on l.terms l.pkg
