use Rattle.std.proofs.Common.{◌≡◌}
use Rattle.registry.specs.Requests.{Wanted}
use Rattle.walk.specs.Best.{Holds, IsGrown}
use Rattle.walk.proofs.choosing.Choosing.test_versions.Given as goal

abbrev pub invariant-loop : goal.invariant-loop
invariant-loop l = record {
  found : l.self.found ≡ l.fn.self.found;
  asked : l.self.asked.items ≡ l.fn.self.asked.items;
  grown : IsGrown l.fn.self l.self;
  holds : (wanted : Wanted) → Holds l.registry.packages wanted l.fn.self → Holds l.registry.packages wanted l.self;
}
