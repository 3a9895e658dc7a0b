use Rattle.std.proofs.Common.{◌≡◌, ◌∷◌, ◌++◌, [], List, length, rules, subst, sym}
use Rattle.store.specs.Indexes.{IsUnder}
use Rattle.store.specs.RequirementIndex.{AreListed, IsWant, KeepsHeld, Wanted}
use Rattle.store.specs.declared.requirement_index.IndexedRequirement.{IndexedRequirement}
use Rattle.store.proofs.Wanting.{AreListed-push, IsWant-last, KeepsHeld-push}
use Rattle.store.proofs.requirement_index.RequirementIndex.push.Goals as goal

pub invariant_of-self : goal.invariant_of-self
invariant_of-self c =
    let want : IndexedRequirement = record { target = c.args.target; need = c.args.need.now } in
    let targets = c.add-then-push_want.new.self in
    let number : c.from.result ≡ c.args.target = search rules in
    let place : c.len-place.result ≡ length c.self.inside.wants.items = search rules in
    subst (λ (l : List IndexedRequirement). AreListed l targets) (sym (c.push_want.ensures.pushed c.if-push_want.true))
    (AreListed-push c.self.inside.wants.items want c.self.inside.targets targets c.add-then-push_want.ensures.whole c.add-then-push_want.ensures.kept
    (λ whole.
    subst (λ n. IsUnder targets.links n (length c.self.inside.wants.items)) number (subst (λ n. IsUnder targets.links c.from.result n) place (c.add-then-push_want.ensures.there whole)))
    c.self.invariant)

pub returns-then-push_want-clause-keeps : goal.returns-then-push_want-clause-keeps
returns-then-push_want-clause-keeps c =
    let want : IndexedRequirement = record { target = c.args.target; need = c.args.need.now } in
    let targets = c.add-then-push_want.new.self in
    let old : Wanted = record { wants = c.self.inside.wants.items; targets = c.self.inside.targets; members = c.self.inside.members } in
    subst (λ (s : Wanted). KeepsHeld s (record { wants = c.push_want.new.wants.items; targets = targets; members = c.self.inside.members })) c.self.view_is
    (subst (λ (l : List IndexedRequirement). KeepsHeld old (record { wants = l; targets = targets; members = c.self.inside.members })) (sym (c.push_want.ensures.pushed c.if-push_want.true))
    (KeepsHeld-push c.self.inside.wants.items want c.self.inside.targets targets c.self.inside.members c.add-then-push_want.ensures.whole c.add-then-push_want.ensures.kept))

pub returns-then-push_want-clause-there : goal.returns-then-push_want-clause-there
returns-then-push_want-clause-there c = λ whole.
    let want : IndexedRequirement = record { target = c.args.target; need = c.args.need.now } in
    let place : c.len-place.result ≡ length c.self.inside.wants.items = search rules in
    subst (λ (l : List IndexedRequirement). IsWant l c.len-place.result c.args.target c.args.need.now) (sym (c.push_want.ensures.pushed c.if-push_want.true))
    (subst (λ n. IsWant (c.self.inside.wants.items ++ want ∷ []) n c.args.target c.args.need.now) (sym place) (IsWant-last c.self.inside.wants.items want))
