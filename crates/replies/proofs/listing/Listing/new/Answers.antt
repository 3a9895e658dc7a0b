use Rattle.replies.proofs.ListingLemmas.{IsListing-sorted}
use Rattle.replies.proofs.listing.Listing.new.Goals as goal

pub returns : goal.returns
returns c =
    IsListing-sorted _ _ _ c.in_ok-published.ensures.rows c.sorted-entries.ensures.same c.sorted-entries.ensures.ascending
