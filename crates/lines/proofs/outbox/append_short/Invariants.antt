use Rattle.std.proofs.Common.{◌≡◌, ◌≤◌, ◌++◌, take, vec_capacity}
use Rattle.lines.proofs.outbox.append_short.Given as goal

abbrev pub invariant-loop-index : goal.invariant-loop-index
invariant-loop-index l = record {
  items : l.waiting.items ≡ l.initial.waiting.items ++ take l.index l.text;
  capacity : vec_capacity l.initial.waiting ≤ vec_capacity l.waiting;
}
