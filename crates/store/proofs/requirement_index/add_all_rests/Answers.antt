use Rattle.std.proofs.Common.{◌∙◌, ℕ, List, rules}
use Rattle.std.proofs.lemmas.Option.{get_or_from_slice_get}
use Rattle.std.specs.Prelude.{Some}
use Rattle.versions.specs.Words.{Text}
use Rattle.store.specs.RequirementIndex.{IsHeld, Rests}
use Rattle.derivations.specs.Lines.{Line}
use Rattle.store.proofs.Finding.{if_some}
use Rattle.store.proofs.Wanting.{AreHeldBelow-all, AreHeldBelow-next}
use Rattle.store.proofs.requirement_index.add_all_rests.Goals as goal

pub loop-place-preserved : goal.loop-place-preserved
loop-place-preserved c =
    AreHeldBelow-next c.loop-place.place c.loop-place.wants c.add_slot_rests.new.wants c.args.slots.now c.add_slot_rests.ensures.keeps
    (λ lines whole e.
    if_some (λ (own : List Line). (target : ℕ) (need : Text) → Rests own target need → IsHeld c.add_slot_rests.new.wants c.loop-place.place target need) c.index-slots-place.result lines
    (c.add_slot_rests.ensures.there whole)
    (c.index-slots-place.is ∙ get_or_from_slice_get c.args.slots.now c.loop-place.place (Some lines) c.index-slots-place.result e))
    c.loop-place.invariant

pub returns : goal.returns
returns c = AreHeldBelow-all c.loop-place.place c.loop-place.wants c.args.slots.now (search rules) c.loop-place.invariant
