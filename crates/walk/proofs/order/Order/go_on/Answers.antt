use Rattle.std.proofs.Common.{◌≡◌, ◌≤◌, ◌+◌, ◌-◌, arith, length}
use Rattle.walk.proofs.Listings.{next_none}
use Rattle.walk.proofs.Orders.{at_stage, listing_kept}
use Rattle.walk.proofs.order.Order.go_on.Goals as goal

pub walk-init : goal.walk-init
walk-init g c =
    let packages = c.args.registry.now.packages in
    let needs = c.args.request.now.needs in
    let order = c.cut.ensures.order packages needs c.requires in
    record {
      order = order;
      listing = listing_kept packages needs c.cut.new.self (g.C.Chooser.chooses c.args.chooser.now) order (rw c.cut.ensures.found c.kept-kept.ensures);
    }

pub returns-clause-ends : goal.returns-clause-ends
returns-clause-ends g c =
    let packages = c.args.registry.now.packages in
    let needs = c.args.request.now.needs in
    let found = c.walk.self.found.entries in
    let behind : length found ≤ c.walk.self.stage - 1 = omega (arith, c.len.ensures.len, c.walk-test.false) in
    let place : c.walk.self.stage ≡ c.walk.self.stage - 1 + 1 = omega (arith, c.len.ensures.len, c.walk-test.false) in
    next_none packages found needs (c.walk.self.stage - 1) behind (at_stage packages needs found c.walk.self.stage (c.walk.self.stage - 1) place c.walk.invariant.order.come)
