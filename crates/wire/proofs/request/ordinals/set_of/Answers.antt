use Rattle.std.proofs.Common.{◌∙◌, sym, subst, List, ℕ, refl}
use Rattle.terms.specs.Sets.{IsAscending}
use Rattle.wire.proofs.ItemLemmas.{list_of_view}
use Rattle.wire.proofs.OrdinalLemmas.{ascending}
use Rattle.wire.proofs.request.ordinals.set_of.Goals as goal

pub returns : goal.returns
returns c =
    let read = list_of_view _ _ c.requires refl in
    let seen = c.deref.ensures.value ∙ c.in_ok-ordinals.ensures in
    let rises = subst (λ (l : List ℕ). IsAscending l) (sym seen) (ascending 0 _ _ read) in
    c.in_ok-set.ensures.same rises ∙ seen
