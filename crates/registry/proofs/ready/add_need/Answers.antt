use Rattle.std.proofs.Common.{◌∙◌, ◌∷◌, ◌++◌, [], ap, arith, if◌then◌else◌, sym}
use Rattle.std.proofs.lemmas.List.{append-nil}
use Rattle.std.proofs.lemmas.Result.{IfOk-equal}
use Rattle.versions.specs.Words.{Text}
use Rattle.registry.specs.Rooms.{names_in}
use Rattle.registry.proofs.GrowthLemmas.{lists_of-set_same}
use Rattle.registry.proofs.ReadyLemmas.{on_ok}
use Rattle.registry.proofs.PlaceLemmas.{extends-none, extends-set}
use Rattle.registry.proofs.ready.add_need.Goals as goal

pub index_mut-list-requires : goal.index_mut-list-requires
index_mut-list-requires c = omega (arith, c.in-Some.ensures.within, c.requires.paired, c.args.lists.now.ok.0)

pub returns-in-Some-clause-lists : goal.returns-in-Some-clause-lists
returns-in-Some-clause-lists c =
    lists_of-set_same c.args.lists.now.items c.in-Some.index c.index_mut-list.result.now c.add_known.new.list c.index_mut-list.ensures.value c.add_known.ensures.publications

pub returns-in-Some-clause-same : goal.returns-in-Some-clause-same
returns-in-Some-clause-same c =
    IfOk-equal c.add_known.result _ _ _ c.add_known.ensures.same (ap (λ (name : Text). c.args.named.now.needs ++ (name, c.args.need.now.1) ∷ []) c.in-Some.ensures.same)

-- a name that stands already is not added
pub returns-in-Some-clause-added : goal.returns-in-Some-clause-added
returns-in-Some-clause-added c =
    let added = names_in c.args.named.now.added.items in
    on_ok c.add_known.result _ (sym (ap (λ b. added ++ (if b then [] else c.args.need.now.0 ∷ [])) (sym c.in-Some.ensures.there) ∙ append-nil added))

pub returns-in-None-clause-added : goal.returns-in-None-clause-added
returns-in-None-clause-added c =
    let added = names_in c.args.named.now.added.items in
    IfOk-equal c.add_new.result _ _ _ c.add_new.ensures.added (sym (ap (λ b. added ++ (if b then [] else c.args.need.now.0 ∷ [])) (sym c.in-None.ensures.there)))

pub returns-in-Some-clause-extends : goal.returns-in-Some-clause-extends
returns-in-Some-clause-extends c =
    extends-set c.args.names.now.keys c.args.lists.now.items c.in-Some.index c.index_mut-list.result.now c.add_known.new.list
    (omega (arith, c.in-Some.ensures.within, c.requires.paired)) c.index_mut-list.ensures.value c.add_known.ensures.grown

pub returns-in-None-clause-extends : goal.returns-in-None-clause-extends
returns-in-None-clause-extends c = extends-none c.args.names.now.keys c.args.lists.now.items
