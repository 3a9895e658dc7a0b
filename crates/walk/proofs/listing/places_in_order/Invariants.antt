use Rattle.std.proofs.Common.{◌≡◌, ◌<◌, ◌≤◌, drop, length, map}
use Rattle.std.specs.List.{AllByRecursion}
use Rattle.walk.specs.Listing.{need_at}
use Rattle.walk.specs.Newest.{in_name_order}
use Rattle.walk.proofs.listing.places_in_order.Given as goal

-- the needs from this one on stand in their order
abbrev pub invariant-needs : goal.invariant-needs
invariant-needs l = record {
  own : l.own ≤ length l.needs;
  within : AllByRecursion (λ place. place < length l.needs) l.places.items;
  order : map (need_at l.needs) l.places.items ≡ in_name_order (drop l.own l.needs);
}

abbrev pub decreases-needs : goal.decreases-needs
decreases-needs l = l.own
