use Rattle.std.proofs.Common.{◌∙◌, ap, rules, subst, sym}
use Rattle.store.specs.Indexes.{Indexed}
use Rattle.store.specs.Slots.{Slots, kept}
use Rattle.store.specs.Stored.{Stored}
use Rattle.store.specs.RequirementIndex.{IsStore, Wanted}
use Rattle.store.proofs.store.Store.reserve.Goals as goal

pub invariant_of-self : goal.invariant_of-self
invariant_of-self c =
    let s = c.self.inside in
    subst (λ (slots : Slots). IsStore s.count slots s.keys s.wants) (sym c.reserve.ensures.items) c.self.invariant

pub invariant_of-self-2 : goal.invariant_of-self-2
invariant_of-self-2 c =
    let s = c.self.inside in
    subst (λ (slots : Slots). IsStore s.count slots s.keys s.wants) (sym c.reserve.ensures.items) c.self.invariant

pub invariant_of-self-in_err-reserve-2 : goal.invariant_of-self-in_err-reserve-2
invariant_of-self-in_err-reserve-2 c =
    let s = c.self-2.inside in
    subst (λ (keys : Indexed). IsStore s.count s.slots.items keys s.wants) (sym c.reserve-2.ensures) c.self-2.invariant

pub invariant_of-self-in_err-reserve-3 : goal.invariant_of-self-in_err-reserve-3
invariant_of-self-in_err-reserve-3 c =
    let s = c.self-2.inside in
    subst (λ (keys : Indexed). IsStore s.count s.slots.items keys c.reserve-3.new.self) (sym c.reserve-2.ensures)
    (subst (λ (wants : Wanted). IsStore s.count s.slots.items s.keys wants) (sym c.reserve-3.ensures) c.self-2.invariant)

pub invariant_of-self-in_err-reserve-4 : goal.invariant_of-self-in_err-reserve-4
invariant_of-self-in_err-reserve-4 c =
    let s = c.self-2.inside in
    subst (λ (keys : Indexed). IsStore s.count s.slots.items keys c.reserve-3.new.self) (sym c.reserve-2.ensures)
    (subst (λ (wants : Wanted). IsStore s.count s.slots.items s.keys wants) (sym c.reserve-3.ensures) c.self-2.invariant)

pub invariant_of-self-3 : goal.invariant_of-self-3
invariant_of-self-3 c =
    let s = c.self-2.inside in
    subst (λ (keys : Indexed). IsStore s.count s.slots.items keys c.reserve-3.new.self) (sym c.reserve-2.ensures)
    (subst (λ (wants : Wanted). IsStore s.count s.slots.items s.keys wants) (sym c.reserve-3.ensures) c.self-2.invariant)

pub returns-in_err-reserve-2-clause-members : goal.returns-in_err-reserve-2-clause-members
returns-in_err-reserve-2-clause-members c =
    ap (λ (s : Stored). s.members) (c.self-2.view_is ∙ c.begin_indexes.ensures) ∙ ap kept c.reserve.ensures.items ∙ ap (λ (s : Stored). s.members) c.self.view_is

pub returns-in_err-reserve-3-clause-members : goal.returns-in_err-reserve-3-clause-members
returns-in_err-reserve-3-clause-members c =
    ap (λ (s : Stored). s.members) (c.self-2.view_is ∙ c.begin_indexes.ensures) ∙ ap kept c.reserve.ensures.items ∙ ap (λ (s : Stored). s.members) c.self.view_is

pub returns-in_err-reserve-4-clause-members : goal.returns-in_err-reserve-4-clause-members
returns-in_err-reserve-4-clause-members c =
    ap (λ (s : Stored). s.members) (c.self-2.view_is ∙ c.begin_indexes.ensures) ∙ ap kept c.reserve.ensures.items ∙ ap (λ (s : Stored). s.members) c.self.view_is

pub returns-clause-members : goal.returns-clause-members
returns-clause-members c =
    ap (λ (s : Stored). s.members) (c.self-2.view_is ∙ c.begin_indexes.ensures) ∙ ap kept c.reserve.ensures.items ∙ ap (λ (s : Stored). s.members) c.self.view_is

pub returns-clause-room : goal.returns-clause-room
returns-clause-room c = search rules
