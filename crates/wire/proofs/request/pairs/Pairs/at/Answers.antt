use Rattle.std.proofs.Common.{◌∙◌, ap, sym, arith, List}
use Rattle.std.specs.List.{slice_get}
use Rattle.versions.specs.Words.{Text}
use Rattle.wire.specs.Shapes.{pair_of}
use Rattle.wire.proofs.ItemLemmas.{length-each, list_of_view}
use Rattle.wire.proofs.request.pairs.Pairs.at.Goals as goal

pub pair_at-requires : goal.pair_at-requires
pair_at-requires c =
    let same = length-each pair_of c.self.inside.items.now c.args.self.now (list_of_view _ _ c.self.invariant c.self.view_is) in
    record { within = omega arith; pairs = c.self.invariant }

pub returns : goal.returns
returns c = ap (λ (l : List (Text × Text)). slice_get l c.args.place) (sym c.self.view_is) ∙ c.pair_at.ensures
