use Rattle.std.proofs.Common.{ℕ, List, [], ◌∷◌, ◌++◌, ◌∙◌, sym, ap, refl, arith}
use Rattle.std.proofs.lemmas.List.{take_all}
use Rattle.wire.proofs.ItemLemmas.{list_of_view, take_one_more}
use Rattle.wire.proofs.OrdinalLemmas.{found_at, length-ordinals, ordinal_at}
use Rattle.wire.proofs.request.ordinals.listed.Goals as goal

pub unwrap-requires : goal.unwrap-requires
unwrap-requires c =
    let read = list_of_view _ _ c.requires refl in
    let same = length-ordinals 0 _ _ read in
    let here = ordinal_at _ _ c.loop-item.item-index c.item-item.result read (omega arith) c.item-item.is ∙ sym c.whole_of.ensures in
    found_at _ _ c.loop-item.item-index (omega arith) here

pub loop-item-preserved : goal.loop-item-preserved
loop-item-preserved c =
    let read = list_of_view _ _ c.requires refl in
    let here = ordinal_at _ _ c.loop-item.item-index c.item-item.result read (omega arith) c.item-item.is ∙ sym c.whole_of.ensures ∙ c.unwrap.ensures in
    c.in_ok-push.ensures.items ∙ ap (λ (l : List ℕ). l ++ c.unwrap.result ∷ []) c.loop-item.invariant ∙ sym (take_one_more _ c.loop-item.item-index _ here)

pub returns : goal.returns
returns c =
    let read = list_of_view _ _ c.requires refl in
    let same = length-ordinals 0 _ _ read in
    c.loop-item.invariant ∙ take_all _ _ (omega arith)
