use Rattle.std.proofs.Common.{◌≤◌, ap, arith, length, rules}
use Rattle.registry.specs.Rooms.{State}
use Rattle.registry.specs.Step.{with_named}
use Rattle.registry.proofs.PackageLemmas.{length-most, length-packages_in}
use Rattle.registry.proofs.registry.Registry.exceeds_numbers.Goals as goal
use Rattle.registry.specs.declared.registry.TheConstants.{PACKAGE_LIMIT}

pub returns-then-len-needs-le-PACKAGE_LIMIT : goal.returns-then-len-needs-le-PACKAGE_LIMIT
returns-then-len-needs-le-PACKAGE_LIMIT c =
    let len = length-packages_in c.self.inside.names.keys c.self.inside.lists.items c.self.invariant.0 in
    let seen = ap (λ (s : State). length s.packages) c.self.view_is in
    let most : length (with_named c.args.self.now.packages c.args.name.now c.args.needs.now) ≤ PACKAGE_LIMIT =
    omega (arith, length-most c.args.self.now.packages c.args.name.now c.args.needs.now, len, seen, c.len.ensures.len, c.if-len-needs-le-PACKAGE_LIMIT.true) in
    search rules
