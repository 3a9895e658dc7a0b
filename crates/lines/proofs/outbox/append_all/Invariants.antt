use Rattle.std.proofs.Common.{◌≡◌, ◌≤◌, ◌++◌, take, flat_map, vec_capacity}
use Rattle.lines.proofs.outbox.append_all.Given as goal

abbrev pub invariant-loop-text : goal.invariant-loop-text
invariant-loop-text l = record {
  items : l.waiting.items ≡ l.initial.waiting.items ++ flat_map (λ t. t.now) (take l.text-index l.texts);
  capacity : vec_capacity l.initial.waiting ≤ vec_capacity l.waiting;
}
