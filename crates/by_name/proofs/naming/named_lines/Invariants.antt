use Rattle.std.proofs.Common.{length, take, vec_capacity, vec_len, ◌≡◌, ◌≤◌}
use Rattle.by_name.specs.Named.{IsNumbered}
use Rattle.by_name.proofs.naming.named_lines.Given as goal

abbrev pub invariant-loop-line : goal.invariant-loop-line
invariant-loop-line l = record {
  told : IsNumbered l.registry.packages l.named.items (take l.line-index l.lines);
  count : vec_len l.named ≡ l.line-index;
  room : length l.lines ≤ vec_capacity l.named;
}
