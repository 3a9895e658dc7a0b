use Rattle.std.proofs.Common.{◌≡◌, ◌≤◌, ◌⊎◌, length, take}
use Rattle.walk.proofs.choice_map.ChoiceMap.truncate.Given as goal

-- a front of what was there is left, of at least so many
abbrev pub invariant-taken : goal.invariant-taken
invariant-taken l = record {
  front : l.self.entries ≡ take (length l.self.entries) l.fn.self.entries;
  many : (l.count ≤ length l.self.entries) ⊎ (l.self.entries ≡ l.fn.self.entries);
}

abbrev pub decreases-taken : goal.decreases-taken
decreases-taken l = length l.self.entries
