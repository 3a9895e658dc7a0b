use Rattle.search.specs.Rank.{rank}
use Rattle.walk.specs.Listing.{IsOrder}
use Rattle.search.specs.Searching.{Searches}
use Rattle.search.proofs.turns.run.Given as goal

abbrev pub invariant-search : goal.invariant-search
invariant-search l = record {
  search : Searches l.task l.search;
  order : IsOrder l.task.registry.now.packages l.task.request.now.needs l.order;
}

-- each turn lowers the rank
abbrev pub decreases-search : goal.decreases-search
decreases-search l = rank l.search.partial
