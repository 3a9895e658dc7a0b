use Rattle.std.proofs.Common.{drop}
use Rattle.terms.proofs.WordLists.{IsCounting}
use Rattle.terms.proofs.words.count.Given as goal

abbrev pub invariant-loop-word : goal.invariant-loop-word
invariant-loop-word l = IsCounting l.words (drop l.word-index l.words) l.total
