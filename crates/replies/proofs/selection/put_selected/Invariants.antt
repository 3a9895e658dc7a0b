use Rattle.std.proofs.Common.{◌≡◌, ◌+◌, ◌≤◌, ◌++◌, length, map, take}
use Rattle.lines.specs.Texts.{outbox_room}
use Rattle.replies.specs.Joined.{joined}
use Rattle.replies.specs.Replies.{pair_json}
use Rattle.replies.proofs.PutLemmas.{Put}
use Rattle.replies.proofs.selection.put_selected.Given as goal

abbrev pub invariant-loop-place : goal.invariant-loop-place
invariant-loop-place g l = record {
  put : Put (g.W.Write.contents l.initial.writer) (g.W.Write.contents l.writer) l.initial.outbox l.outbox
      (joined (map pair_json (take l.place l.pairs)));
  waits : length l.initial.outbox + length (joined (map pair_json l.pairs)) ≤ outbox_room
      → l.outbox ≡ l.initial.outbox ++ joined (map pair_json (take l.place l.pairs));
}
