use Rattle.std.proofs.Common.{◌≡◌, ◌∙◌, ap, length, rules, subst, sym}
use Rattle.std.proofs.lemmas.Fn.{filter_same}
use Rattle.std.specs.Prelude.{filter, is_some}
use Rattle.store.specs.Slots.{AreFound, HasKey, Slots, kept}
use Rattle.store.specs.Stored.{Stored}
use Rattle.store.specs.RequirementIndex.{AreHeld}
use Rattle.store.proofs.Thinning.{kept_some}
use Rattle.store.proofs.store.Store.tidy.Goals as goal

pub invariant_of-self : goal.invariant_of-self
invariant_of-self c =
    let left : c.retain.new.self.items ≡ filter is_some c.self.inside.slots.items = filter_same _ _ _ (λ x b f' k. search rules) _ _ c.retain.ensures.filtered in
    record {
      counted = c.self.invariant.counted ∙ sym (ap (λ (l : Slots). length (kept l)) left ∙ ap length (kept_some c.self.inside.slots.items));
      keyed = subst (λ (l : Slots). AreFound HasKey c.add_keys.new.keys l) c.deref.ensures.value c.add_keys.ensures;
      held = subst (λ (l : Slots). AreHeld c.add_all_rests.new.wants l) c.deref-2.ensures.value c.add_all_rests.ensures;
    }

pub returns : goal.returns
returns c =
    let left : c.retain.new.self.items ≡ filter is_some c.self.inside.slots.items = filter_same _ _ _ (λ x b f' k. search rules) _ _ c.retain.ensures.filtered in
    ap kept left ∙ kept_some c.self.inside.slots.items ∙ ap (λ (s : Stored). s.members) c.self.view_is
