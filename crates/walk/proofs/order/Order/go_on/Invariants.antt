use Rattle.std.proofs.Common.{◌-◌, ◌^◌}
use Rattle.walk.specs.Listing.{IsListing, IsOrder}
use Rattle.walk.proofs.order.Order.go_on.Given as goal

abbrev pub invariant-walk : goal.invariant-walk
invariant-walk g l = record {
  order : IsOrder l.registry.packages l.request.needs l.self;
  listing : IsListing l.registry.packages l.request.needs (g.C.Chooser.chooses l.chooser) l.self.found.entries;
}

-- a map has fewer entries than 2 ^ 63
abbrev pub decreases-walk : goal.decreases-walk
decreases-walk g l = 2 ^ 63 - l.self.stage
