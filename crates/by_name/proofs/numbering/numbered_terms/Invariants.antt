use Rattle.std.proofs.Common.{Some, length, take, vec_capacity, vec_len, ◌≡◌, ◌≤◌}
use Rattle.by_name.specs.Named.{numbered_terms}
use Rattle.by_name.proofs.numbering.numbered_terms.Given as goal

abbrev pub invariant-loop-entry : goal.invariant-loop-entry
invariant-loop-entry l = record {
  told : numbered_terms l.registry.packages (take l.entry-index l.terms) ≡ Some l.numbered.items;
  count : vec_len l.numbered ≡ l.entry-index;
  room : length l.terms ≤ vec_capacity l.numbered;
}
