use Rattle.std.proofs.Common.{drop}
use Rattle.checker.proofs.Joining.{IsJoining}
use Rattle.checker.proofs.table.Table.and_others.Given as goal

abbrev pub invariant-loop-pkg : goal.invariant-loop-pkg
invariant-loop-pkg l = IsJoining l.initial.self l.self l.cause (drop l.pkg-index l.cause) l.pivot
