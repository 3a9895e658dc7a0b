use Rattle.std.proofs.Common.{◌≡◌, ◌∙◌, ◌+◌, ◌++◌, [], ◌∷◌, length, length-append, ap, arith, rules, subst, sym}
use Rattle.std.specs.Prelude.{Some}
use Rattle.store.specs.Indexes.{IsUnder}
use Rattle.store.specs.Keys.{key_of}
use Rattle.store.specs.Slots.{HasKey, Slots, kept}
use Rattle.store.specs.Stored.{Stored, conclusion_of}
use Rattle.store.specs.RequirementIndex.{IsHeld, IsStore}
use Rattle.store.proofs.Finding.{AreFound-later, AreFound-push, length_kept}
use Rattle.store.proofs.Thinning.{kept_push}
use Rattle.store.proofs.Wanting.{AreHeld-later, AreHeld-push}
use Rattle.store.proofs.store.Store.push.Goals as goal

pub invariant_of-self : goal.invariant_of-self
invariant_of-self c =
    let same : c.push.new.self.items ≡ c.self.inside.slots.items = search rules in
    subst (λ (l : Slots). IsStore c.self.inside.count l c.add_key.new.keys c.add_rests.new.wants) (sym same)
    (record {
      counted = c.self.invariant.counted;
      keyed = AreFound-later HasKey c.self.inside.keys c.add_key.new.keys c.self.inside.slots.items c.add_key.ensures.whole c.add_key.ensures.kept c.self.invariant.keyed;
      held = AreHeld-later c.self.inside.wants c.add_rests.new.wants c.self.inside.slots.items c.add_rests.ensures.keeps c.self.invariant.held;
    })

pub overflow_add-self : goal.overflow_add-self
overflow_add-self c = let few = length_kept c.self.inside.slots.items in omega (arith, c.self.invariant.counted, few, c.len-place.ensures, c.in_ok-push.ensures.len)

pub invariant_of-self-2 : goal.invariant_of-self-2
invariant_of-self-2 c =
    let pushed : c.push.new.self.items ≡ c.self.inside.slots.items ++ Some c.args.learnt ∷ [] = search rules in
    let place : c.len-place.result ≡ length c.self.inside.slots.items = search rules in
    subst (λ (l : Slots). IsStore (c.self.inside.count + 1) l c.add_key.new.keys c.add_rests.new.wants) (sym pushed)
    (record {
      counted = omega (arith, c.self.invariant.counted, ap length (kept_push c.self.inside.slots.items c.args.learnt), length-append (kept c.self.inside.slots.items) (c.args.learnt ∷ []));
      keyed = AreFound-push HasKey c.self.inside.keys c.add_key.new.keys c.self.inside.slots.items c.args.learnt c.add_key.ensures.whole c.add_key.ensures.kept
          (λ number whole has. subst (λ n. IsUnder c.add_key.new.keys.links n (length c.self.inside.slots.items)) has
          (subst (λ n. IsUnder c.add_key.new.keys.links (key_of (conclusion_of c.args.learnt)) n) place (c.add_key.ensures.there whole)))
          c.self.invariant.keyed;
      held = AreHeld-push c.self.inside.wants c.add_rests.new.wants c.self.inside.slots.items c.args.learnt c.add_rests.ensures.keeps
          (λ whole target need rests. subst (λ n. IsHeld c.add_rests.new.wants n target need) place (c.add_rests.ensures.there whole target need rests))
          c.self.invariant.held;
    })

pub returns-clause-learnt : goal.returns-clause-learnt
returns-clause-learnt c =
    let pushed : c.push.new.self.items ≡ c.self.inside.slots.items ++ Some c.args.learnt ∷ [] = search rules in
    ap kept pushed ∙ kept_push c.self.inside.slots.items c.args.learnt ∙ ap (λ (s : Stored). s.members ++ c.args.learnt ∷ []) c.self.view_is
