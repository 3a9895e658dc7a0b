use Rattle.std.proofs.Common.{[], nat_eq}
use Rattle.terms.specs.Words.{ordinals_of}
use Rattle.terms.proofs.Inserting.{grown-with, word_of-is}
use Rattle.terms.proofs.words.words_of_one.Goals as goal

pub returns-clause-words : goal.returns-clause-words
returns-clause-words c =
    let g = grown-with (nat_eq c.args.ordinal) c.word_of-word.result [] 0
    (word_of-is c.args.ordinal c.word_of-word.result c.ranges.ordinal.fits c.word_of-word.ensures.number c.word_of-word.ensures.bits) tt tt tt in
    rw c.from_buf.ensures.items g.0

pub returns-clause-added : goal.returns-clause-added
unfolding ordinals_of
returns-clause-added c =
    let g = grown-with (nat_eq c.args.ordinal) c.word_of-word.result [] 0
    (word_of-is c.args.ordinal c.word_of-word.result c.ranges.ordinal.fits c.word_of-word.ensures.number c.word_of-word.ensures.bits) tt tt tt in
    rw c.from_buf.ensures.items g.1
