use Rattle.std.proofs.Common.{◌≡◌}
use Rattle.walk.specs.Best.{IsChoosing}
use Rattle.walk.proofs.choosing.Choosing.choose.Given as goal

abbrev pub invariant-loop : goal.invariant-loop
invariant-loop l = record {
  choosing : IsChoosing l.registry.packages l.request l.self;
  found : l.self.found.entries ≡ l.fn.self.found.entries;
  asked : l.self.asked.items ≡ l.fn.self.asked.items;
}
