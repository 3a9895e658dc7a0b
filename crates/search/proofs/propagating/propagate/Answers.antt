use Rattle.std.proofs.Common.{◌∙◌, ◌<◌, List, subst, refl}
use Rattle.search.specs.declared.assignment.Assignment.{Assignment}
use Rattle.search.specs.Rank.{rank}
use Rattle.search.proofs.propagating.propagate.Goals as goal

pub use_places-requires : goal.use_places-requires
use_places-requires c = c.packages.invariant.search

pub returns-in-Derived-clause-acts : goal.returns-in-Derived-clause-acts
returns-in-Derived-clause-acts c =
    let on = rw c.in-Derived.is at c.in_ok-use_places.ensures.acts in
    (on.0, subst (λ (made : List Assignment). rank c.use_places.new.search.partial < rank made) c.packages.invariant.same.0 on.1)

pub returns-in-Backjumped-clause-acts : goal.returns-in-Backjumped-clause-acts
returns-in-Backjumped-clause-acts c =
    let on = rw c.in-Backjumped.is at c.in_ok-use_places.ensures.acts in
    (on.0, subst (λ (made : List Assignment). rank c.use_places.new.search.partial < rank made) c.packages.invariant.same.0 on.1)

pub returns-in-Refused-clause-acts : goal.returns-in-Refused-clause-acts
returns-in-Refused-clause-acts c = rw c.in-Refused.is at c.in_ok-use_places.ensures.acts

-- what each turn of the loop keeps

pub packages-init : goal.packages-init
packages-init c = record { search = c.requires; same = (refl, refl) }

pub packages-preserved : goal.packages-preserved
packages-preserved c =
    let still = rw c.in-Neither.is at c.in_ok-use_places.ensures.acts in
    record { search = rw (still.0, still.1) c.packages.invariant.search; same = (still.0 ∙ c.packages.invariant.same.0, still.1 ∙ c.packages.invariant.same.1) }

pub returns-in_default-clause-acts : goal.returns-in_default-clause-acts
returns-in_default-clause-acts c = c.packages.invariant.same
