use Rattle.std.proofs.Common.{◌≡◌, ◌%◌, ◌∙◌, ◌^◌, ap, arith}
use Rattle.std.proofs.Math.Pow.{pow-lt}
use Rattle.terms.proofs.LowSets.{without-low, without-none}
use Rattle.terms.proofs.low.LowSet.without.Goals as goal

pub returns-then-ordinal-ge-WORD_BITS : goal.returns-then-ordinal-ge-WORD_BITS
returns-then-ordinal-ge-WORD_BITS c = rw (← c.self.view_is) (without-none c.self.inside.bits c.args.ordinal c.if-ordinal-ge-WORD_BITS.true)

pub returns : goal.returns
returns c =
    let own : c.args.ordinal % 64 ≡ c.args.ordinal = omega (arith, c.if-ordinal-ge-WORD_BITS.false) in
    let is : c.word_of-word.result.bits ≡ 2 ^ c.args.ordinal = c.word_of-word.ensures.bits ∙ ap (λ n. 2 ^ n) own in
    rw (is, ← c.self.view_is) (without-low c.self.inside.bits c.args.ordinal (pow-lt c.if-ordinal-ge-WORD_BITS.false))
