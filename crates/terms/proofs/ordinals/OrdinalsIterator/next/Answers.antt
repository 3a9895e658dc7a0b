use Rattle.std.proofs.Common.{◌∙◌, sym, rules}
use Rattle.terms.proofs.Cursor.{ordinals_of-next}
use Rattle.terms.proofs.ordinals.OrdinalsIterator.next.Goals as goal

pub returns-clause-steps : goal.returns-clause-steps
returns-clause-steps c =
    sym c.self.view_is ∙ sym c.in_ok-word.ensures.same ∙ ordinals_of-next c.in_ok-word.word c.in_ok-word.rest.now c.in_ok-word.ensures.some c.in_ok-word.ensures.lawful.fits

pub returns-clause-goes : goal.returns-clause-goes
returns-clause-goes c =
    rw (sym c.self.view_is ∙ sym c.in_ok-word.ensures.same ∙ ordinals_of-next c.in_ok-word.word c.in_ok-word.rest.now c.in_ok-word.ensures.some c.in_ok-word.ensures.lawful.fits) (search rules)
