use Rattle.std.proofs.Common.{rules, sym, ◌∙◌, ap}
use Rattle.std.specs.Option.{option_copied}
use Rattle.std.proofs.lemmas.List.Sorted.{answers_always}
use Rattle.terms.proofs.Inserting.{cmp-less, place-end, place-searched}
use Rattle.terms.proofs.words.place_of.Goals as goal

pub returns-in-Less : goal.returns-in-Less
returns-in-Less c =
    place-end c.args.number c.args.words.now c.in-Some.last.now c.requires (sym c.last.ensures.value ∙ ap option_copied c.in-Some.is) (cmp-less _ _ (sym c.cmp.ensures ∙ c.in-Less.is))

pub returns-in-Greater : goal.returns-in-Greater
returns-in-Greater c =
    place-searched c.args.number c.args.words.now c.binary_search_by_key.result c.requires c.binary_search_by_key.ensures.bound
    (c.binary_search_by_key.ensures.position (λ w. w.number) (answers_always _ _ _ (λ f a r g h. search rules)))
