use Rattle.std.proofs.Common.{◌∙◌, ap, length, refl, sym}
use Rattle.std.proofs.lemmas.Option.{slice_get_past, slice_get_read}
use Rattle.store.specs.Slots.{concludes, passes_at}
use Rattle.store.proofs.slots.place_concludes.Goals as goal

pub returns-in-Some : goal.returns-in-Some
returns-in-Some c =
    let slots = c.args.slots.now in
    let found = c.in-Some.ensures.lookup in
    c.slot_concludes.ensures ∙ ap (passes_at (concludes c.args.conclusion.now)) (sym (slice_get_read slots (length slots) c.args.place c.in-Some.slot.now refl found.3.0 found.1))

pub returns-in-None : goal.returns-in-None
returns-in-None c = ap (passes_at (concludes c.args.conclusion.now)) (sym (slice_get_past c.args.slots.now c.args.place c.in-None.ensures.lookup.3))
