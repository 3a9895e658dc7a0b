use Rattle.std.proofs.Common.{◌∙◌, ◌++◌, List, [], ◌∷◌, ap, map, sym, take}
use Rattle.versions.specs.Words.{Text}
use Rattle.solver.specs.Outcomes.{told}
use Rattle.std.proofs.lemmas.Option.{slice_get-get_or}
use Rattle.solver.proofs.Listing.{listed_published, told_next}
use Rattle.solver.proofs.telling.named_all.Goals as goal

pub named-requires : goal.named-requires
named-requires c =
    listed_published c.args.registry.now.packages c.args.list.now c.loop-chosen.chosen-index _ c.requires.once c.requires.selection
    (slice_get-get_or c.args.list.now c.loop-chosen.chosen-index (0, 0) c.loop-chosen-test.true)

pub loop-chosen-preserved : goal.loop-chosen-preserved
loop-chosen-preserved c =
    let packages = c.args.registry.now.packages in
    let list = c.args.list.now in
    let i = c.loop-chosen.chosen-index in
    c.in_ok-push.ensures.items
    ∙ ap (λ (pairs : List (Text × Text)). pairs ++ c.in_ok-named.field-0 ∷ []) c.loop-chosen.invariant
    ∙ ap (λ (pair : Text × Text). map (told packages) (take i list) ++ pair ∷ []) c.in_ok-named.ensures
    ∙ sym (told_next packages list i _ (slice_get-get_or list i (0, 0) c.loop-chosen-test.true))
