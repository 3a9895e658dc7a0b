-- The rule of the queue of jobs: indexes and behind them stops, and each index below the count was taken once or is left.
use Rattle.std.specs.Prelude.{◌≡◌, ℕ, ◌+◌, ◌-◌, ◌<◌, ◌≤◌, ◌++◌, nat_eq, nat_lt, if◌then◌else◌, true, false, List, [], ◌∷◌, Option, Some, None, ⊤, length}
use mathlib.Core.Option.{some}
use lib.ListN.{get_elem?}
use Rattle.pool.specs.declared.rule.Hand.{Hand}
use Rattle.pool.specs.Hands.{hand}

-- ---- lists of indexes

-- how often i stands in a list
abbrev pub times : ℕ → List ℕ → ℕ
times i [] = 0
times i (x ∷ xs) = (if nat_eq i x then 1 else 0) + times i xs

-- 1 for an index below the count, 0 for another
abbrev pub once : ℕ → ℕ → ℕ
once count i = if nat_lt i count then 1 else 0

-- ---- what the queue holds

-- the indexes in it, in order
abbrev pub indexes : List (Option ℕ) → List ℕ
indexes [] = []
indexes (Some i ∷ items) = i ∷ indexes items
indexes (None ∷ items) = indexes items

-- how many stops it holds
abbrev pub stops : List (Option ℕ) → ℕ
stops [] = 0
stops (Some i ∷ items) = stops items
stops (None ∷ items) = 1 + stops items

-- no index stands behind a stop
abbrev pub IsOrdered : List (Option ℕ) → Type 0
IsOrdered [] = ⊤
IsOrdered (Some i ∷ items) = IsOrdered items
IsOrdered (None ∷ items) = (indexes items ≡ []) × IsOrdered items

-- ---- the rule

-- f of each hand, added up
abbrev pub total : (Hand → ℕ) → List Hand → ℕ
total f [] = 0
total f (v ∷ hands) = f v + total f hands

-- a hand without a part waits for no stop and has taken nothing
abbrev pub IsIdle : Hand → Type 0
IsIdle v = (v.stops ≡ 0) × (v.told ≡ false) × (v.taken ≡ [])

-- a hand with a part knows how many indexes were put and how many parts there are; and where a hand was told to stop, no index is left
abbrev pub Fits : ℕ → ℕ → List (Option ℕ) → Hand → Type 0
Fits count all_parts items v = (0 < v.parts → (v.count ≡ count) × (v.all_parts ≡ all_parts)) × (v.parts ≡ 0 → IsIdle v) × (v.told ≡ true → indexes items ≡ [])

-- of the indexes below the count each was taken once or is in the queue; the hands have all the parts, and a stop in the queue for each that they wait for
pub record Shares (count all_parts : ℕ) (items : List (Option ℕ)) (hands : List Hand) : Type 0 where
  pub whole : total (λ v. v.parts) hands ≡ all_parts
  pub a_stop_each : total (λ v. v.stops) hands ≡ stops items
  pub ordered : IsOrdered items
  pub balanced : (i : ℕ) → once count i ≡ total (λ v. times i v.taken) hands + times i (indexes items)
  pub sized : total (λ v. length v.taken) hands + length (indexes items) ≡ count
  pub fits : (port : ℕ) (v : Hand) → get_elem? hands port ≡ some v → Fits count all_parts items v

abbrev pub IsShared : List (Option ℕ) → List Hand → Type 0
IsShared items hands = (count : ℕ) × (all_parts : ℕ) × Shares count all_parts items hands

-- ---- what a step tells

-- the index was the next one; with a stop more there are as many parts as stops
abbrev pub IsPut : Hand → Option ℕ → Hand → Type 0
IsPut v (Some i) w = w ≡ hand v.parts v.all_parts v.stops v.told (v.count + 1) v.taken
IsPut v None w = w ≡ hand (v.stops + 1) (v.stops + 1) (v.stops + 1) v.told v.count v.taken

-- an index below the count joins what was taken; after a stop the hand is told
abbrev pub IsTaken : Hand → Option ℕ → Hand → Type 0
IsTaken v (Some i) w = (i < v.count) × (w ≡ hand v.parts v.all_parts v.stops v.told v.count (v.taken ++ i ∷ []))
IsTaken v None w = w ≡ hand v.parts v.all_parts (v.stops - 1) true v.count v.taken

-- the queue holds each index that was put and not taken, and the stops
abbrev pub IsHeld : Hand → List (Option ℕ) → Type 0
IsHeld v items = length items + length v.taken ≡ v.count + v.stops

-- the queue holds the stops that the hand waits for
abbrev pub IsWaitedFor : Hand → List (Option ℕ) → Type 0
IsWaitedFor v items = v.stops ≤ stops items

-- what was taken and what is left is each index once, and nothing is left where the hand was told so
abbrev pub IsAll : Hand → List (Option ℕ) → Type 0
IsAll v items = ((i : ℕ) → once v.count i ≡ times i v.taken + times i (indexes items)) × (v.told ≡ true → indexes items ≡ [])
