use Rattle.std.proofs.Common.{length, take, vec_capacity, vec_len, ◌≡◌, ◌≤◌}
use Rattle.by_name.specs.Named.{IsNumbered}
use Rattle.by_name.proofs.numbering.numbered_lines.Given as goal

abbrev pub invariant-loop-line : goal.invariant-loop-line
invariant-loop-line l = record {
  told : IsNumbered l.registry.packages (take l.line-index l.lines) l.numbered.items;
  count : vec_len l.numbered ≡ l.line-index;
  room : length l.lines ≤ vec_capacity l.numbered;
}
