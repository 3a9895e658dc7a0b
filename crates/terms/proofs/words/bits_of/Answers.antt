use Rattle.std.proofs.Common.{sym, ◌∙◌, ap}
use Rattle.std.proofs.lemmas.Option.{get_or_from_slice_get, slice_get_within}
use Rattle.terms.proofs.Inserting.{bits_of-at, bits_of-none}
use Rattle.terms.proofs.words.bits_of.Goals as goal

pub bounds-words-place : goal.bounds-words-place
bounds-words-place c = let p = c.in-Ok.ensures in slice_get_within c.args.words.now c.in-Ok.place p.0 p.1

pub returns-in-Ok : goal.returns-in-Ok
returns-in-Ok c =
    let p = c.in-Ok.ensures in
    ap (λ w. w.bits) (get_or_from_slice_get c.args.words.now c.in-Ok.place p.0 _ p.1) ∙ sym (bits_of-at c.args.number c.in-Ok.place c.args.words.now p.0 c.requires p.1 p.2)

pub returns-in-Err : goal.returns-in-Err
returns-in-Err c = let p = c.in-Err.ensures in sym (bits_of-none c.args.number c.in-Err.field-0 c.args.words.now p.1 p.2)
