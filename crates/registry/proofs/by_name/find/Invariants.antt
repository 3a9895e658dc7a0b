use Rattle.std.proofs.Common.{◌-◌}
use Rattle.std.specs.Map.{keys_of}
use Rattle.registry.proofs.NameOrder.{IsSearching}
use Rattle.registry.proofs.by_name.find.Given as goal

abbrev pub invariant-halve : goal.invariant-halve
invariant-halve g l = IsSearching (keys_of l.lines) l.places l.name l.low l.high

abbrev pub decreases-halve : goal.decreases-halve
decreases-halve g l = l.high - l.low
