use Rattle.std.proofs.Common.{◌-◌, ◌^◌}
use Rattle.walk.specs.Best.{ArePassed, IsChoosing}
use Rattle.walk.proofs.choosing.Choosing.choose_all_selected.Given as goal

abbrev pub invariant-asked : goal.invariant-asked
invariant-asked g l = record {
  choosing : IsChoosing l.registry.packages l.request l.self;
  passed : ArePassed l.self l.at;
}

-- a list has fewer elements than 2 ^ 63
abbrev pub decreases-asked : goal.decreases-asked
decreases-asked g l = 2 ^ 63 - l.at
