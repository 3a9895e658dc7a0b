use Rattle.std.proofs.Common.{◌≡◌, ◌≤◌, ◌+◌, ◌++◌, ℕ, List, length, take, flat_map}
use Rattle.std.specs.Io.KnownBytes.{Appends}
use Rattle.lines.specs.Texts.{outbox_room}
use Rattle.lines.proofs.outbox.Outbox.put_all.Given as goal

abbrev pub invariant-loop-text : goal.invariant-loop-text
invariant-loop-text g l = record {
  put : (written : List ℕ) × Appends (g.W.Write.contents l.initial.writer) (g.W.Write.contents l.writer) written
      × (written ++ l.self ≡ l.initial.self ++ flat_map (λ t. t.now) (take l.text-index l.texts));
  waits : length l.initial.self + length (flat_map (λ t. t.now) l.texts) ≤ outbox_room
      → l.self ≡ l.initial.self ++ flat_map (λ t. t.now) (take l.text-index l.texts);
}
