use Rattle.std.proofs.Common.{◌∙◌, ap, arith, nat_eq, sym}
use Rattle.terms.specs.Sets.{has}
use Rattle.terms.proofs.Ascending.{or-false}
use Rattle.terms.proofs.SameSets.{same_members}
use Rattle.terms.proofs.sets.VSet.single.Goals as goal

pub returns : goal.returns
returns c =
    same_members 0 c.from_words.result _ c.from_words.ensures.ascending (omega arith, tt)
    (λ k. ap (λ l. has l k) c.from_words.ensures.same ∙ c.words_of_one.ensures.added k ∙ sym (or-false (nat_eq c.args.ordinal k)))
