use Rattle.std.proofs.Common.{List, subst, sym}
use Rattle.store.specs.Indexes.{Indexed}
use Rattle.store.specs.RequirementIndex.{AreListed}
use Rattle.store.specs.declared.requirement_index.IndexedRequirement.{IndexedRequirement}
use Rattle.store.proofs.requirement_index.RequirementIndex.reserve.Goals as goal

pub invariant_of-self : goal.invariant_of-self
invariant_of-self c = subst (λ (l : List IndexedRequirement). AreListed l c.self.inside.targets) (sym c.reserve.ensures.items) c.self.invariant

pub invariant_of-self-in_err-reserve-2 : goal.invariant_of-self-in_err-reserve-2
invariant_of-self-in_err-reserve-2 c = subst (λ (l : List IndexedRequirement). AreListed l c.self.inside.targets) (sym c.reserve.ensures.items) c.self.invariant

pub invariant_of-self-in_err-reserve-3 : goal.invariant_of-self-in_err-reserve-3
invariant_of-self-in_err-reserve-3 c =
    subst (λ (l : List IndexedRequirement). AreListed l c.reserve-3.new.self) (sym c.reserve.ensures.items)
    (subst (λ (t : Indexed). AreListed c.self.inside.wants.items t) (sym c.reserve-3.ensures) c.self.invariant)

pub invariant_of-self-2 : goal.invariant_of-self-2
invariant_of-self-2 c =
    subst (λ (l : List IndexedRequirement). AreListed l c.reserve-3.new.self) (sym c.reserve.ensures.items)
    (subst (λ (t : Indexed). AreListed c.self.inside.wants.items t) (sym c.reserve-3.ensures) c.self.invariant)
