use Rattle.std.proofs.Common.{◌≡◌, subst, sym, true}
use Rattle.store.specs.RequirementIndex.{IsWant, KeepsHeld, Wanted}
use Rattle.store.proofs.Wanting.{KeepsHeld-members, KeepsHeld-next}
use Rattle.store.proofs.requirement_index.RequirementIndex.add.Goals as goal

pub returns-clause-keeps : goal.returns-clause-keeps
returns-clause-keeps c =
    let s = c.self.inside in
    let new : Wanted = record { wants = s.wants.items; targets = s.targets; members = c.add.new.self } in
    KeepsHeld-next c.args.self.now c.place_of-place.new.self new c.place_of-place.ensures.keeps
    (subst (λ (mid : Wanted). KeepsHeld mid new) c.self.view_is (KeepsHeld-members s.wants.items s.targets s.members c.add.new.self c.add.ensures.whole c.add.ensures.kept))

pub returns-clause-there : goal.returns-clause-there
returns-clause-there c = λ whole.
    let place = c.place_of-place.result in
    let is = subst (λ (s : Wanted). IsWant s.wants place c.args.target c.args.need.now) (sym c.self.view_is)
    (c.place_of-place.ensures.there (subst (λ (s : Wanted). s.targets.whole ≡ true) c.self.view_is whole.0)) in
    record {
      place = place;
      wants = is;
      listed = c.self.invariant whole.0 place c.args.target c.args.need.now is;
      under = c.add.ensures.there whole.1;
    }
