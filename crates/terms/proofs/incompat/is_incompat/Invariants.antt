use Rattle.std.proofs.Common.{drop}
use Rattle.terms.proofs.TermLists.{IsJudging}
use Rattle.terms.proofs.incompat.is_incompat.Given as goal

abbrev pub invariant-loop-pkg : goal.invariant-loop-pkg
invariant-loop-pkg l = IsJudging l.terms (drop l.pkg-index l.terms) l.low
