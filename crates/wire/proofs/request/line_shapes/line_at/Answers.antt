use Rattle.std.proofs.Common.{◌∙◌, sym, ap, Option, option_map, refl, arith}
use Rattle.wire.specs.DerivedShapes.{line_said}
use Rattle.wire.specs.NamedShapes.{line_in}
use Rattle.wire.specs.declared.request.line_shapes.LineShape.{LineShape}
use Rattle.wire.proofs.ItemLemmas.{each_at, length-each, list_of_view, some_found}
use Rattle.wire.proofs.request.line_shapes.line_at.Goals as goal

pub unwrap-requires : goal.unwrap-requires
unwrap-requires c =
    let read = list_of_view _ _ c.requires.lines refl in
    let same = length-each line_in _ _ read in
    let here = each_at line_in _ _ c.args.place c.index-items-place.result read c.requires.within c.index-items-place.is ∙ sym c.line_in.ensures in
    some_found line_said c.line_in.result _ c.args.place (omega arith) here

pub returns : goal.returns
returns c =
    let here = each_at line_in _ _ c.args.place c.index-items-place.result (list_of_view _ _ c.requires.lines refl) c.requires.within c.index-items-place.is in
    here ∙ sym c.line_in.ensures ∙ ap (λ (o : Option (LineShape)). option_map line_said o) c.unwrap.ensures
