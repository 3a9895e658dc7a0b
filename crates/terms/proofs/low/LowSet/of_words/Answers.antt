use Rattle.std.proofs.Common.{◌∙◌, refl, sym}
use Rattle.terms.proofs.LowSets.{later_word, no_word, none-low, one_word, several_words}
use Rattle.terms.proofs.low.LowSet.of_words.Goals as goal

pub returns-in-empty-clause-some : goal.returns-in-empty-clause-some
returns-in-empty-clause-some c = c.from_bits.ensures ∙ none-low ∙ sym (no_word c.args.words.now c.args.words.now refl c.in-empty.len_below)

pub returns-in-len1-clause-some : goal.returns-in-len1-clause-some
returns-in-len1-clause-some c = c.from_bits-in-len1.ensures ∙ sym (one_word c.args.words.now c.args.words.now refl c.in-len1.len_at_least c.in-len1.len_below c.if-word-eq0.true)

pub returns-in-len1-2-clause-none : goal.returns-in-len1-2-clause-none
returns-in-len1-2-clause-none c = later_word c.args.words.now c.args.words.now refl c.requires c.in-len1.len_at_least c.if-word-eq0.false

pub returns-in-len2-up-clause-none : goal.returns-in-len2-up-clause-none
returns-in-len2-up-clause-none c = several_words c.args.words.now c.args.words.now refl c.requires c.in-len2-up.len_at_least
