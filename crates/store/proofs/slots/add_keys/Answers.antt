use Rattle.std.proofs.Common.{◌∙◌, List, rules, subst}
use Rattle.std.proofs.lemmas.Option.{get_or_from_slice_get}
use Rattle.std.specs.Prelude.{Some}
use Rattle.store.specs.Indexes.{IsUnder}
use Rattle.store.specs.Keys.{key_of}
use Rattle.store.specs.Slots.{HasKey}
use Rattle.store.specs.Stored.{conclusion_of}
use Rattle.derivations.specs.Lines.{Line}
use Rattle.store.proofs.Finding.{AreFoundBelow-all, AreFoundBelow-next, if_some}
use Rattle.store.proofs.slots.add_keys.Goals as goal

pub loop-place-preserved : goal.loop-place-preserved
loop-place-preserved c =
    AreFoundBelow-next HasKey c.loop-place.place c.loop-place.keys c.add_slot_key.new.keys c.args.slots.now c.add_slot_key.ensures.whole c.add_slot_key.ensures.kept
    (λ lines number whole e has.
    subst (λ n. IsUnder c.add_slot_key.new.keys.links n c.loop-place.place) has
    (if_some (λ (own : List Line). IsUnder c.add_slot_key.new.keys.links (key_of (conclusion_of own)) c.loop-place.place) c.index-slots-place.result lines (c.add_slot_key.ensures.there whole)
    (c.index-slots-place.is ∙ get_or_from_slice_get c.args.slots.now c.loop-place.place (Some lines) c.index-slots-place.result e)))
    c.loop-place.invariant

pub returns : goal.returns
returns c = AreFoundBelow-all HasKey c.loop-place.place c.loop-place.keys c.args.slots.now (search rules) c.loop-place.invariant
