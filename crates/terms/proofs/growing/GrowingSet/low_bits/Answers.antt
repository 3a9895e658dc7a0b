use Rattle.std.proofs.Common.{◌∙◌, List, ap}
use Rattle.terms.specs.declared.words.Word.{Word}
use Rattle.terms.specs.Words.{bits_of, is_bit}
use Rattle.terms.proofs.WordLists.{low-bits}
use Rattle.terms.proofs.growing.GrowingSet.low_bits.Goals as goal

pub returns : goal.returns
returns c =
    rw (← c.self.view_is) (λ k lt.
    ap (λ b. is_bit b k) c.bits_of.ensures
    ∙ ap (λ (words : List Word). is_bit (bits_of words 0) k) c.deref.ensures
    ∙ low-bits c.self.inside.words.items c.self.invariant k lt)
