use Rattle.registry.specs.Registry.{Packages}
use Rattle.registry.specs.Requests.{Wanted}
use Rattle.checker.specs.Shown.{AreShown, IsShown}
use Rattle.checker.proofs.showing.follow.Given as goal

abbrev pub invariant-loop-step : goal.invariant-loop-step
invariant-loop-step l = (packages : Packages) (wanted : Wanted) → AreShown packages wanted l.known l.made → IsShown packages wanted l.chain.table
