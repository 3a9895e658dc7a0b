use Rattle.std.proofs.Common.{◌≡◌, ℕ, map, take}
use Rattle.std.specs.Prelude.{All}
use Rattle.walk.specs.Names.{IsFronted}
use Rattle.walk.proofs.names.with_fronts.Given as goal

abbrev pub invariant-loop-i : goal.invariant-loop-i
invariant-loop-i l = record {
  same : map (λ (f : ℕ × (ℕ × ℕ)). f.1) l.fronted.items ≡ take l.i l.list;
  fronted : All (IsFronted l.registry.packages) l.fronted.items;
}
