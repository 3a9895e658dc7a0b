use Rattle.std.proofs.Common.{◌∙◌, ◌%◌, ap, sym, nat_eq}
use Rattle.std.proofs.lemmas.Nat.Bits.{shr_and_one}
use Rattle.terms.specs.Words.{is_bit}
use Rattle.terms.proofs.WordLists.{has-ordinals_of}
use Rattle.terms.proofs.words.has_ordinal.Goals as goal

pub returns : goal.returns
returns c =
    ap (λ n. nat_eq n 1) (shr_and_one c.bits_of-bits.result (c.args.ordinal % 64)) ∙ ap (λ b. is_bit b (c.args.ordinal % 64)) c.bits_of-bits.ensures
    ∙ sym (has-ordinals_of 0 c.args.words.now c.requires c.args.ordinal)
