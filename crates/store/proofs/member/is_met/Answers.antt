use Rattle.std.proofs.Common.{◌∙◌, false, sym}
use Rattle.versions.specs.Words.{meets}
use Rattle.terms.specs.Sets.{has}
use Rattle.store.proofs.Resting.{apart_on}
use Rattle.store.proofs.member.is_met.Goals as goal

pub returns-else-has : goal.returns-else-has
returns-else-has c =
    c.if-has.false ∙ sym (apart_on c.args.target (λ need. meets need c.args.version.now) c.args.member.now
    (sym (c.rests_on.ensures c.args.target) ∙ sym c.has.ensures ∙ c.if-has.false))
