use Rattle.std.proofs.Common.{◌≡◌, ◌<◌}
use Rattle.std.specs.Prelude.{IfNone, IfSome}
use Rattle.search.specs.Rank.{rank}
use Rattle.search.specs.Searching.{IsUnchanged, Searches}
use Rattle.search.proofs.propagating.use_places.Given as goal

-- nothing was derived and nothing is changed, or something was and the rank fell
abbrev pub invariant-loop-i : goal.invariant-loop-i
invariant-loop-i l = record {
  search : Searches l.task l.search;
  same : IfNone l.last (IsUnchanged l.fn.search l.search);
  left : IfNone l.last (l.changed.items ≡ l.fn.changed.items);
  fell : IfSome l.last (λ pkg. rank l.search.partial < rank l.fn.search.partial);
}
