use Rattle.wire.specs.Shapes.{pair_of}
use Rattle.wire.proofs.ItemLemmas.{length-each, list_of_view}
use Rattle.wire.proofs.request.pairs.Pairs.len.Goals as goal

pub returns : goal.returns
returns c = length-each pair_of _ _ (list_of_view _ _ c.self.invariant c.self.view_is)
