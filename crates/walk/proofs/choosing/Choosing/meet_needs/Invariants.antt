use Rattle.std.proofs.Common.{◌≡◌, take}
use Rattle.walk.specs.Best.{AreTargets, Holds}
use Rattle.walk.specs.Newest.{in_name_order}
use Rattle.walk.proofs.choosing.Choosing.meet_needs.Given as goal

abbrev pub invariant-loop-i : goal.invariant-loop-i
invariant-loop-i l = record {
  found : l.self.found ≡ l.fn.self.found;
  targets : AreTargets l.registry.packages (take l.i (in_name_order l.request.needs)) l.self.asked.items;
  holds : Holds l.registry.packages l.request l.self;
}
