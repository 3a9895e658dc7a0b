use Rattle.std.proofs.Common.{◌≡◌, ◌∙◌, ◌++◌, ℕ, ap, arith, drop, length, subst, sym, take}
use Rattle.std.proofs.lemmas.List.{append-nil, drop_all, take_all}
use Rattle.store.specs.Slots.{AreFewer, Slots, kept, unmet}
use Rattle.store.specs.Stored.{Stored}
use Rattle.store.specs.RequirementIndex.{IsStore}
use Rattle.store.proofs.Wanting.{AreHeld-fewer}
use Rattle.store.proofs.store.Store.drop_met.Goals as goal

-- what a slice of a whole list has become is the list
whole_slice : (new old : Slots) (n : ℕ) → length new ≡ length old → n ≡ length old → take n (new ++ drop (length new) old) ≡ new
whole_slice new old n same is =
    ap (λ (rest : Slots). take n (new ++ rest)) (drop_all (length new) old (omega (arith, same))) ∙ ap (take n) (append-nil new) ∙ take_all n new (omega (arith, same, is))

pub invariant_of-self : goal.invariant_of-self
invariant_of-self c =
    let old = c.self.inside.slots in
    let new = c.drop_met-self-inside.new.slots in
    let whole = whole_slice new old.items old.len (omega (arith, c.drop_met-self-inside.auto.slots, ap length c.deref_mut.ensures.value)) old.ok.0 in
    let fewer : AreFewer old.items new = subst (λ (slots : Slots). AreFewer slots new) c.deref_mut.ensures.value c.drop_met-self-inside.ensures.fewer in
    subst (λ (slots : Slots). IsStore c.drop_met-self-inside.result slots c.self.inside.keys c.self.inside.wants) (sym whole) (record {
      counted = c.drop_met-self-inside.ensures.count;
      keyed = λ is place lines number at has. c.self.invariant.keyed is place lines number (fewer place lines at) has;
      held = AreHeld-fewer c.self.inside.wants old.items new fewer c.self.invariant.held;
    })

pub returns : goal.returns
returns c =
    let old = c.self.inside.slots in
    let new = c.drop_met-self-inside.new.slots in
    let whole = whole_slice new old.items old.len (omega (arith, c.drop_met-self-inside.auto.slots, ap length c.deref_mut.ensures.value)) old.ok.0 in
    ap kept whole ∙ c.drop_met-self-inside.ensures.kept ∙ ap (λ (slots : Slots). unmet c.args.pkg c.args.version.now (kept slots)) c.deref_mut.ensures.value
    ∙ ap (λ (s : Stored). unmet c.args.pkg c.args.version.now s.members) c.self.view_is
