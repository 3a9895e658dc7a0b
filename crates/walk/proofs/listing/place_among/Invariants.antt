use Rattle.std.proofs.Common.{◌≡◌, ◌++◌, drop, map, take}
use Rattle.walk.specs.Listing.{need_at}
use Rattle.walk.specs.Newest.{insert_by_name}
use Rattle.walk.proofs.listing.place_among.Given as goal

-- those before the place are lower
abbrev pub invariant-loop-i : goal.invariant-loop-i
invariant-loop-i l =
    insert_by_name (need_at l.needs l.own) (map (need_at l.needs) l.places)
    ≡ take l.i (map (need_at l.needs) l.places) ++ insert_by_name (need_at l.needs l.own) (drop l.i (map (need_at l.needs) l.places))
