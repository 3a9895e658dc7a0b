use Rattle.std.proofs.Common.{◌∙◌, sym}
use Rattle.store.specs.Slots.{concludes}
use Rattle.store.specs.Stored.{has_conclusion}
use Rattle.store.proofs.Finding.{concluded-none}
use Rattle.store.proofs.Thinning.{any_kept}
use Rattle.store.proofs.slots.found_concludes.Goals as goal

pub returns-then-place_concludes : goal.returns-then-place_concludes
unfolding has_conclusion
returns-then-place_concludes c =
    sym (any_kept (concludes c.args.conclusion.now) c.args.slots.now c.in-Some.link.place (sym c.place_concludes.ensures ∙ c.if-place_concludes.true))

pub returns : goal.returns
unfolding has_conclusion
returns c =
    sym (concluded-none c.args.slots.now c.args.keys.now c.args.conclusion.now c.key_of-key.result _ c.key_of-key.ensures c.requires.whole c.requires.found c.walk.invariant (c.in_default.ensures.none c.requires.whole))
