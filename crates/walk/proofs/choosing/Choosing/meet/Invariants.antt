use Rattle.registry.specs.Registry.{needs_of}
use Rattle.std.proofs.Common.{take}
use Rattle.walk.specs.Best.{AsksOf, IsGrown, MeetsOf}
use Rattle.walk.proofs.choosing.Choosing.meet.Given as goal

abbrev pub invariant-loop-index : goal.invariant-loop-index
invariant-loop-index l = record {
  meets : MeetsOf l.registry.packages l.version.0 l.version.1 l.fn.self l.self;
  asks : AsksOf l.registry.packages (take l.index (needs_of l.registry.packages l.version.0 l.version.1)) l.is_chosen l.fn.self.asked.items l.self.asked.items;
  grown : IsGrown l.fn.self l.self;
}
