use Rattle.std.proofs.Common.{◌∙◌, ap, refl, subst, sym}
use Rattle.std.proofs.lemmas.Option.{slice_get_read}
use Rattle.std.specs.Prelude.{Option, Some}
use Rattle.derivations.specs.Derivations.{Finds, IsFact}
use Rattle.derivations.specs.Facts.{Terms}
use Rattle.derivations.specs.declared.facts.Cause.TheVariants.{Need}
use Rattle.derivations.proofs.causes.need_given.Goals as goal

pub returns-in-Some-Some : goal.returns-in-Some-Some
returns-in-Some-Some c =
    let found = c.in-Some-Some.ensures.lookup in
    let at = slice_get_read c.args.kept.now _ c.args.index c.in-Some-Some.field-0.now refl found.3.0 found.1 in
    c.requires c.args.index c.in-Some-Some.incompat (at ∙ ap (λ (terms : Option Terms). Some terms) c.in-Some-Some.field-0-is)

pub returns-in_ok-need_fact-in_default : goal.returns-in_ok-need_fact-in_default
returns-in_ok-need_fact-in_default c = subst (Finds (IsFact c.args.registry.now.packages c.args.request.now (Need c.args.index))) (sym c.as_given.ensures) c.in_ok-need_fact-in_default.ensures
