-- What one pass of the queue of jobs knows, as a value.
use Rattle.std.specs.Prelude.{ℕ, Bool, List, Option}
use Rattle.crossbeam_queue.specs.Passes.{Pass, view}
use Rattle.pool.specs.declared.rule.Hand.{Hand}

-- its parts and how many there are, its stops, whether it took one, how many indexes were put, and which it took
abbrev pub hand : ℕ → ℕ → ℕ → Bool → ℕ → List ℕ → Hand
hand parts all_parts stops told count taken = record { parts = parts; all_parts = all_parts; stops = stops; told = told; count = count; taken = taken }

-- what a pass knows
abbrev pub known : Pass (Option ℕ) Hand → Hand
known = view
