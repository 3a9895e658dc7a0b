use Rattle.std.proofs.Common.{drop}
use Rattle.checker.proofs.Joining.{IsKeeping}
use Rattle.checker.proofs.table.Table.conclusion.Given as goal

abbrev pub invariant-loop-pkg : goal.invariant-loop-pkg
invariant-loop-pkg l = IsKeeping l.terms l.kept.items (drop l.pkg-index l.terms)
