use Rattle.std.proofs.Common.{◌∙◌, ap, refl, sym}
use Rattle.std.proofs.lemmas.Option.{slice_get_past, slice_get_read}
use Rattle.std.specs.Option.{option_flatten}
use Rattle.search.proofs.trail.last_on.Goals as goal

pub returns-in-None : goal.returns-in-None
returns-in-None c =
    let none = slice_get_past c.as_slice.result.now c.args.pkg c.in-None.ensures.lookup.3 in
    sym (ap option_flatten (rw c.as_slice.ensures.value at none)) ∙ c.requires.0.last c.args.pkg

pub returns-in-Some : goal.returns-in-Some
returns-in-Some c =
    let found = c.in-Some.ensures.lookup in
    let read = slice_get_read c.as_slice.result.now _ c.args.pkg c.in-Some.last.now refl found.3.0 found.1 in
    sym (ap option_flatten (rw c.as_slice.ensures.value at read)) ∙ c.requires.0.last c.args.pkg
