use Rattle.std.proofs.Common.{◌∙◌, ap, sym, arith, List}
use Rattle.std.specs.List.{slice_get}
use Rattle.by_name.specs.NamedLines.{NamedLine}
use Rattle.wire.specs.NamedShapes.{line_in}
use Rattle.wire.proofs.ItemLemmas.{length-each, list_of_view}
use Rattle.wire.proofs.request.line_shapes.Lines.at.Goals as goal

pub line_at-requires : goal.line_at-requires
line_at-requires c =
    let same = length-each line_in c.self.inside.items.now c.args.self.now (list_of_view _ _ c.self.invariant c.self.view_is) in
    record { within = omega arith; lines = c.self.invariant }

pub returns : goal.returns
returns c = ap (λ (l : List (NamedLine)). slice_get l c.args.place) (sym c.self.view_is) ∙ c.line_at.ensures
