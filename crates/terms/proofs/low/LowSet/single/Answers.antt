use Rattle.std.proofs.Common.{◌≡◌, ◌%◌, ◌∙◌, ◌^◌, ap, arith}
use Rattle.terms.proofs.LowSets.{low_ordinals, single-low}
use Rattle.terms.proofs.low.LowSet.single.Goals as goal

pub returns-clause-some : goal.returns-clause-some
returns-clause-some c =
    let own : c.args.ordinal % 64 ≡ c.args.ordinal = omega (arith, c.if-ordinal-ge-WORD_BITS.false) in
    ap low_ordinals (c.word_of-word.ensures.bits ∙ ap (λ n. 2 ^ n) own) ∙ single-low c.args.ordinal c.if-ordinal-ge-WORD_BITS.false
