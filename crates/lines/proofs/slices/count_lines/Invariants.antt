use Rattle.std.proofs.Common.{◌≡◌, ◌≤◌, ◌+◌, length}
use Rattle.lines.specs.Lines.{lines_of}
use Rattle.lines.proofs.slices.count_lines.Given as goal

abbrev pub invariant-counting : goal.invariant-counting
invariant-counting l = record {
  counted : l.count + length (lines_of l.rest) ≡ length (lines_of l.fn.bytes);
  fits : l.count + length l.rest ≤ length l.fn.bytes;
}

abbrev pub decreases-counting : goal.decreases-counting
decreases-counting l = length l.rest
