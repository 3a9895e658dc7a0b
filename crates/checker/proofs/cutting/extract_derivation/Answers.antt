use Rattle.std.proofs.Common.{◌≡◌, ◌∙◌, List, [], ◌∷◌, ap, subst, sym}
use Rattle.std.specs.Prelude.{Some}
use Rattle.terms.specs.declared.term.Term.TheVariants.{In}
use Rattle.derivations.specs.Facts.{Terms}
use Rattle.derivations.specs.Derivations.{IsDerivation, last_conclusion}
use Rattle.checker.specs.Cutting.{EndsBefore, IsEndLine, ShowsLine}
use Rattle.checker.specs.Taking.{lines_at, said_at, said_by}
use Rattle.derivations.specs.declared.known.CausedIncompatibility.{CausedIncompatibility}
use Rattle.derivations.specs.Lines.{Line}
use Rattle.checker.proofs.Moving.{end_moved, resolved_there, said_moved}
use Rattle.checker.proofs.Walking.{derivation_by}
use Rattle.checker.proofs.cutting.extract_derivation.Goals as goal

pub paired-requires-clause-resolved : goal.paired-requires-clause-resolved
paired-requires-clause-resolved c =
    resolved_there c.args.known.items c.last_step-place.result (subst (λ (all : List CausedIncompatibility). IsEndLine all c.last_step-place.result) c.deref.ensures.value c.last_step-place.ensures.ends)

pub steps_of-requires-clause-ordered : goal.steps_of-requires-clause-ordered
steps_of-requires-clause-ordered c = rw c.deref-2.ensures.value c.in_ok-lines.ensures.ordered

pub steps_of-requires-clause-resolved : goal.steps_of-requires-clause-resolved
steps_of-requires-clause-resolved c =
    let ends = subst (λ (all : List CausedIncompatibility). IsEndLine all c.last_step-place.result) c.deref.ensures.value c.last_step-place.ensures.ends in
    rw c.deref-2.ensures.value
    (resolved_there c.in_ok-lines.lines.items c.in_ok-lines.at (end_moved c.args.known.items c.last_step-place.result c.in_ok-lines.lines.items c.in_ok-lines.at c.in_ok-lines.ensures ends))

pub returns-clause-derived : goal.returns-clause-derived
returns-clause-derived c = λ packages wanted lawful.
    let known = c.args.known.items in
    let place = c.last_step-place.result in
    let lines = c.in_ok-lines.lines.items in
    let at = c.in_ok-lines.at in
    let steps = c.in_ok-steps.steps.items in
    let ends = subst (λ (all : List CausedIncompatibility). IsEndLine all place) c.deref.ensures.value c.last_step-place.ensures.ends in
    let shows = subst (λ (all : List CausedIncompatibility). ShowsLine all at (lines_at all steps)) c.deref-2.ensures.value c.in_ok-steps.ensures.shows in
    subst (λ (all : List Line). IsDerivation packages wanted all) (sym (c.new.ensures ∙ c.in_ok-taken.ensures))
    (derivation_by lines at (lines_at lines steps) shows (end_moved known place lines at c.in_ok-lines.ensures ends) packages wanted (c.in_ok-lines.ensures.lawful packages wanted lawful))

pub returns-clause-early : goal.returns-clause-early
returns-clause-early c = λ before.
    let known = c.args.known.items in
    let place = c.last_step-place.result in
    let lines = c.in_ok-lines.lines.items in
    let at = c.in_ok-lines.at in
    let steps = c.in_ok-steps.steps.items in
    let root : Terms = (0, In (0 ∷ [])) ∷ [] in
    let there = subst (λ (all : List CausedIncompatibility). EndsBefore all c.args.end) (sym c.deref.ensures.value) before in
    let says = subst (λ (all : List CausedIncompatibility). said_at all place ≡ root) c.deref.ensures.value (c.last_step-place.ensures.early there) in
    let ends = subst (λ (all : List CausedIncompatibility). IsEndLine all place) c.deref.ensures.value c.last_step-place.ensures.ends in
    let shows = subst (λ (all : List CausedIncompatibility). ShowsLine all at (lines_at all steps)) c.deref-2.ensures.value c.in_ok-steps.ensures.shows in
    subst (λ (all : List Line). last_conclusion all ≡ Some root) (sym (c.new.ensures ∙ c.in_ok-taken.ensures))
    (shows.last ∙ ap (λ (terms : Terms). Some terms) (sym (ap said_by shows.own_at) ∙ said_moved known place lines at c.in_ok-lines.ensures ends ∙ says))
