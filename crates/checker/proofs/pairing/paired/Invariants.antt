use Rattle.std.proofs.Common.{◌≡◌, drop, length}
use Rattle.std.specs.Vec.Iter.{into_iter_items}
use Rattle.checker.specs.Pairing.{AreMoved}
use Rattle.checker.proofs.pairing.paired.Given as goal

-- the first lines have moved, and the others are left
abbrev pub invariant-loop-line : goal.invariant-loop-line
invariant-loop-line l = record {
  moved : AreMoved l.fn.known.items l.lines.items l.places.items;
  left : into_iter_items l.line-iterator ≡ drop (length l.places.items) l.fn.known.items;
}
