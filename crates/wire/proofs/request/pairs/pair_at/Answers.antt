use Rattle.std.proofs.Common.{◌∙◌, sym, ap, Option, Bor, option_map, refl, arith}
use Rattle.versions.specs.Words.{Text}
use Rattle.wire.specs.Shapes.{pair_of}
use Rattle.wire.proofs.ItemLemmas.{each_at, length-each, list_of_view, some_found}
use Rattle.wire.proofs.request.pairs.pair_at.Goals as goal

-- a pair of borrowed texts, by the texts
abbrev texts_of_pair : Bor Text × Bor Text → Text × Text
texts_of_pair p = (p.0.now, p.1.now)

pub unwrap-requires : goal.unwrap-requires
unwrap-requires c =
    let read = list_of_view _ _ c.requires.pairs refl in
    let same = length-each pair_of _ _ read in
    let here = each_at pair_of _ _ c.args.place c.index-items-place.result read c.requires.within c.index-items-place.is ∙ sym c.pair_of.ensures in
    some_found texts_of_pair c.pair_of.result _ c.args.place (omega arith) here

pub returns : goal.returns
returns c =
    let here = each_at pair_of _ _ c.args.place c.index-items-place.result (list_of_view _ _ c.requires.pairs refl) c.requires.within c.index-items-place.is in
    here ∙ sym c.pair_of.ensures ∙ ap (λ (o : Option (Bor Text × Bor Text)). option_map texts_of_pair o) c.unwrap.ensures
