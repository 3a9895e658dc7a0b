use Rattle.std.proofs.Common.{inl}
use Rattle.walk.proofs.listing.pass_dependency.Goals as goal

pub returns-then-branch : goal.returns-then-branch
returns-then-branch g c =
    let d = c.in_ok-target.ensures in
    ((d.name, d.need), d.at, inl (c.in_ok-target.target, d.number, rw c.if-branch.true at c.in_ok-visit.ensures))

pub returns-else-branch : goal.returns-else-branch
returns-else-branch g c =
    let d = c.in_ok-target.ensures in
    ((d.name, d.need), d.at, (d.number, rw c.if-branch.false at c.in_ok-visit.ensures))
