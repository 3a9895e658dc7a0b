use Rattle.std.proofs.Common.{◌∙◌, List, ap, refl}
use Rattle.std.proofs.lemmas.Option.{slice_get_read}
use Rattle.std.specs.Prelude.{Option, Some}
use Rattle.derivations.specs.Lines.{Line}
use Rattle.store.proofs.slots.member_at.Goals as goal

pub returns-in-Some-Some : goal.returns-in-Some-Some
returns-in-Some-Some c =
    let found = c.in-Some-Some.ensures.lookup in
    slice_get_read c.args.slots.now _ c.args.place c.in-Some-Some.field-0.now refl found.3.0 found.1 ∙ ap (λ (slot : Option (List Line)). Some slot) c.in-Some-Some.field-0-is
