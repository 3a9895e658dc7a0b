use Rattle.std.proofs.Common.{◌≡◌, ◌+◌, ◌≤◌, ◌++◌, length, map, take}
use Rattle.lines.specs.Texts.{outbox_room}
use Rattle.registry.specs.Registry.{package_at, versions_or_none}
use Rattle.replies.specs.Entries.{publication_json}
use Rattle.replies.specs.Joined.{joined}
use Rattle.replies.proofs.PutLemmas.{Put}
use Rattle.replies.proofs.listing.text.put_versions.Given as goal

abbrev pub invariant-loop-ordinal : goal.invariant-loop-ordinal
invariant-loop-ordinal g l = record {
  put : Put (g.W.Write.contents l.initial.writer) (g.W.Write.contents l.writer) l.initial.outbox l.outbox
      (joined (map publication_json (take l.ordinal (versions_or_none (package_at l.registry.packages l.number)))));
  waits : length l.initial.outbox + length (joined (map publication_json (versions_or_none (package_at l.registry.packages l.number)))) ≤ outbox_room
      → l.outbox ≡ l.initial.outbox ++ joined (map publication_json (take l.ordinal (versions_or_none (package_at l.registry.packages l.number))));
}
