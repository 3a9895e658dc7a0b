use Rattle.std.proofs.Common.{◌-◌, length}
use Rattle.derivations.specs.Causes.{HasNoFacts}
use Rattle.derivations.proofs.cited.empty_places.Given as goal

abbrev pub invariant-places : goal.invariant-places
invariant-places l = HasNoFacts l.kept.items

abbrev pub decreases-places : goal.decreases-places
decreases-places l = l.count - length l.kept.items
