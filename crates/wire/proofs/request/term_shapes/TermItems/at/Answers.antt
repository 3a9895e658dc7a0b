use Rattle.std.proofs.Common.{◌∙◌, ap, sym, arith, Option, List}
use Rattle.std.specs.List.{slice_get}
use Rattle.versions.specs.Words.{Text}
use Rattle.terms.specs.declared.term.Term.{Term}
use Rattle.wire.specs.NamedShapes.{term_in}
use Rattle.wire.proofs.ItemLemmas.{length-each, list_of_view}
use Rattle.wire.proofs.request.term_shapes.TermItems.at.Goals as goal

pub term_at-requires : goal.term_at-requires
term_at-requires c =
    let same = length-each term_in c.self.inside.items.now c.args.self.now (list_of_view _ _ c.self.invariant c.self.view_is) in
    record { within = omega arith; terms = c.self.invariant }

pub returns : goal.returns
returns c = ap (λ (l : List (Option Text × Term)). slice_get l c.args.place) (sym c.self.view_is) ∙ c.term_at.ensures
