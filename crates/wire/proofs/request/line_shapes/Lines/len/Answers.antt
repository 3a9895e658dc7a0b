use Rattle.wire.specs.NamedShapes.{line_in}
use Rattle.wire.proofs.ItemLemmas.{length-each, list_of_view}
use Rattle.wire.proofs.request.line_shapes.Lines.len.Goals as goal

pub returns : goal.returns
returns c = length-each line_in _ _ (list_of_view _ _ c.self.invariant c.self.view_is)
