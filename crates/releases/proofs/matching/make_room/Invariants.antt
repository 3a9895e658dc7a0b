use Rattle.std.proofs.Common.{◌≡◌, ◌<◌, ◌≤◌, ℕ, get_or}
use Rattle.terms.specs.Growing.{Growing}
use Rattle.releases.proofs.matching.make_room.Given as goal

abbrev pub invariant-loop-set : goal.invariant-loop-set
invariant-loop-set l = record {
  same : (i : ℕ) (d : Growing) → (get_or l.sets i d).ordinals ≡ (get_or l.initial.sets i d).ordinals;
  room : (i : ℕ) (d : Growing) → i < l.set-index → 0 < (get_or l.sets i d).room;
  left : (i : ℕ) (d : Growing) → l.set-index ≤ i → get_or l.sets i d ≡ get_or l.initial.sets i d;
}
