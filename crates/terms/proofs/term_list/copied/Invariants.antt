use Rattle.std.proofs.Common.{◌≡◌, take}
use Rattle.terms.proofs.term_list.copied.Given as goal

abbrev pub invariant-loop-pkg : goal.invariant-loop-pkg
invariant-loop-pkg l = l.copy.items ≡ take l.pkg-index l.terms
