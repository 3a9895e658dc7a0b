use Rattle.std.proofs.Common.{◌∙◌, ap, subst, sym}
use Rattle.terms.specs.Words.{AreWords, ordinals_of}
use Rattle.terms.proofs.SameSets.{counted-within}
use Rattle.terms.proofs.WordLists.{IsAscending-ordinals_of}
use Rattle.terms.proofs.sets.VSet.count_of_rule.Goals as goal

pub returns : goal.returns
returns c =
    counted-within c.args.rule (ordinals_of c.deref.result.now) (ordinals_of c.deref-2.result.now) c.args.self.now c.args.other.now c.count_kept.result c.requires
    (IsAscending-ordinals_of c.deref.result.now (subst (λ l. AreWords l) (sym c.deref.ensures) c.self.invariant))
    (ap ordinals_of c.deref.ensures ∙ c.self.view_is) (ap ordinals_of c.deref-2.ensures ∙ c.other.view_is) c.count_kept.ensures
