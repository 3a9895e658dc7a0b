use Rattle.std.proofs.Common.{◌∙◌, sym, ap, Option, option_map, refl, arith}
use Rattle.wire.specs.DerivedShapes.{term_said}
use Rattle.wire.specs.NamedShapes.{term_in}
use Rattle.wire.specs.declared.request.term_shapes.TermShape.{TermShape}
use Rattle.wire.proofs.ItemLemmas.{each_at, length-each, list_of_view, some_found}
use Rattle.wire.proofs.request.term_shapes.term_at.Goals as goal

pub unwrap-requires : goal.unwrap-requires
unwrap-requires c =
    let read = list_of_view _ _ c.requires.terms refl in
    let same = length-each term_in _ _ read in
    let here = each_at term_in _ _ c.args.place c.index-items-place.result read c.requires.within c.index-items-place.is ∙ sym c.term_in.ensures in
    some_found term_said c.term_in.result _ c.args.place (omega arith) here

pub returns : goal.returns
returns c =
    let here = each_at term_in _ _ c.args.place c.index-items-place.result (list_of_view _ _ c.requires.terms refl) c.requires.within c.index-items-place.is in
    here ∙ sym c.term_in.ensures ∙ ap (λ (o : Option (TermShape)). option_map term_said o) c.unwrap.ensures
