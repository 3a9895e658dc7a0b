use Rattle.wire.specs.NamedShapes.{term_in}
use Rattle.wire.proofs.ItemLemmas.{length-each, list_of_view}
use Rattle.wire.proofs.request.term_shapes.TermItems.len.Goals as goal

pub returns : goal.returns
returns c = length-each term_in _ _ (list_of_view _ _ c.self.invariant c.self.view_is)
