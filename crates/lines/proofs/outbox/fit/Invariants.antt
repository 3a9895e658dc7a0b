use Rattle.std.proofs.Common.{◌≡◌, ◌+◌, length, take, flat_map}
use Rattle.lines.proofs.outbox.fit.Given as goal

-- what is left of the room
abbrev pub invariant-loop-text : goal.invariant-loop-text
invariant-loop-text l = l.left + length (flat_map (λ t. t.now) (take l.text-index l.texts)) ≡ l.room
