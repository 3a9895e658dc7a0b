use Rattle.std.proofs.Common.{◌≡◌, map, take}
use Rattle.replies.specs.Entries.{row_at}
use Rattle.replies.specs.Listings.{rows_of}
use Rattle.replies.proofs.listing.published.Given as goal

abbrev pub invariant-loop-place : goal.invariant-loop-place
invariant-loop-place l = map (row_at l.registry.packages) l.entries.items ≡ rows_of (take l.place l.registry.packages)
