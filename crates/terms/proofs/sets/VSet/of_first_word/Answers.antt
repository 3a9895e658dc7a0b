use Rattle.std.proofs.Common.{◌∙◌, ap, sym}
use Rattle.terms.specs.Words.{ordinals_of}
use Rattle.terms.proofs.LowSets.{first_word, low_ordinals, none-low}
use Rattle.terms.proofs.sets.VSet.of_first_word.Goals as goal

pub returns-then-bits-eq0 : goal.returns-then-bits-eq0
returns-then-bits-eq0 c = c.new.ensures ∙ sym none-low ∙ ap low_ordinals (sym (search))

pub returns : goal.returns
returns c = c.from_words.ensures.same ∙ ap ordinals_of c.from_buf.ensures.items ∙ first_word c.args.bits
