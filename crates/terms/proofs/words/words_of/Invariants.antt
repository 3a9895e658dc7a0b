use Rattle.std.proofs.Common.{◌+◌, take}
use Rattle.terms.proofs.WordsTogether.{AreComing}
use Rattle.terms.proofs.words.words_of.Given as goal

abbrev pub invariant-loop-ordinal : goal.invariant-loop-ordinal
invariant-loop-ordinal l = AreComing l.words.items l.last (take (l.ordinal-index + 1) l.ordinals)
