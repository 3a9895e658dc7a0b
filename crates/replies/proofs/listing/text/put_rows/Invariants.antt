use Rattle.std.proofs.Common.{◌≡◌, ◌+◌, ◌≤◌, ◌++◌, length, map, take}
use Rattle.lines.specs.Texts.{outbox_room}
use Rattle.replies.specs.Entries.{entry_json}
use Rattle.replies.specs.Joined.{joined}
use Rattle.replies.proofs.PutLemmas.{Put}
use Rattle.replies.proofs.listing.text.put_rows.Given as goal

abbrev pub invariant-loop-place : goal.invariant-loop-place
invariant-loop-place g l = record {
  put : Put (g.W.Write.contents l.initial.writer) (g.W.Write.contents l.writer) l.initial.outbox l.outbox
      (joined (map (entry_json l.registry.packages) (take l.place l.entries)));
  waits : length l.initial.outbox + length (joined (map (entry_json l.registry.packages) l.entries)) ≤ outbox_room
      → l.outbox ≡ l.initial.outbox ++ joined (map (entry_json l.registry.packages) (take l.place l.entries));
}
