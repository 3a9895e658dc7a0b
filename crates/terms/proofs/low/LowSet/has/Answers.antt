use Rattle.std.proofs.Common.{◌∙◌, ap, arith, sym, nat_eq}
use Rattle.std.proofs.lemmas.Bool.{le-ltb}
use Rattle.std.proofs.lemmas.Nat.Bits.{shr_and_one}
use Rattle.terms.proofs.LowSets.{absent-high, has-low}
use Rattle.terms.proofs.low.LowSet.has.Goals as goal

pub returns-then-ordinal-lt-WORD_BITS : goal.returns-then-ordinal-lt-WORD_BITS
returns-then-ordinal-lt-WORD_BITS c = rw (← c.self.view_is) (ap (λ n. nat_eq n 1) (shr_and_one c.self.inside.bits c.args.ordinal) ∙ sym (has-low c.self.inside.bits c.args.ordinal (omega (arith, c.if-ordinal-lt-WORD_BITS.true))))

pub returns-else-ordinal-lt-WORD_BITS : goal.returns-else-ordinal-lt-WORD_BITS
returns-else-ordinal-lt-WORD_BITS c =
    rw (← c.self.view_is)
    (le-ltb c.args.ordinal 64 c.if-ordinal-lt-WORD_BITS.false ∙ sym (absent-high c.self.inside.bits c.args.ordinal c.if-ordinal-lt-WORD_BITS.false))
