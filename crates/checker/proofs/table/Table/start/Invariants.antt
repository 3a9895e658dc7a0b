use Rattle.std.proofs.Common.{◌≡◌, take}
use Rattle.checker.proofs.table.Table.start.Given as goal

abbrev pub invariant-loop-pkg : goal.invariant-loop-pkg
invariant-loop-pkg l = l.self ≡ take l.pkg-index l.terms
