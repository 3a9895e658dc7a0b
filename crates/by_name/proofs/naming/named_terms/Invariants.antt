use Rattle.std.proofs.Common.{Some, length, take, vec_capacity, vec_len, ◌≡◌, ◌≤◌}
use Rattle.by_name.specs.Named.{numbered_terms}
use Rattle.by_name.proofs.naming.named_terms.Given as goal

abbrev pub invariant-loop-entry : goal.invariant-loop-entry
invariant-loop-entry l = record {
  told : numbered_terms l.registry.packages l.named.items ≡ Some (take l.entry-index l.terms);
  count : vec_len l.named ≡ l.entry-index;
  room : length l.terms ≤ vec_capacity l.named;
}
