use Rattle.std.proofs.Common.{arith}
use Rattle.terms.proofs.WordLists.{counting-begin, counting-end, counting-fits, counting-turn}
use Rattle.terms.proofs.words.count.Goals as goal

pub loop-word-init : goal.loop-word-init
loop-word-init c = counting-begin c.args.words.now c.requires

pub overflow_add-total : goal.overflow_add-total
overflow_add-total c = record { fits = counting-fits c.args.words.now c.loop-word.word-index c.loop-word.total _ c.loop-word.invariant c.loop-word-test.true }

pub loop-word-preserved : goal.loop-word-preserved
loop-word-preserved c = counting-turn c.args.words.now c.loop-word.word-index c.loop-word.total _ c.loop-word.invariant c.loop-word-test.true

pub returns : goal.returns
returns c = counting-end c.args.words.now c.loop-word.word-index c.loop-word.total c.loop-word.invariant (omega arith)
