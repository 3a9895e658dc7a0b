use Rattle.checker.proofs.Ruling.{FirstTrueWith}
use Rattle.checker.proofs.by_chains.are_all_true.Given as goal

abbrev pub invariant-loop-on : goal.invariant-loop-on
invariant-loop-on l = FirstTrueWith l.terms l.before.entries l.pkg l.ordinal l.on-index
