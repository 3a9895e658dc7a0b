-- The rank of a partial solution: a number that falls with each turn of a search, which therefore ends.
use Rattle.std.specs.Prelude.{◌≡◌, ◌<◌, ◌≤◌, ℕ, zero, suc, ◌+◌, ◌*◌, ◌^◌, Bool, true, false, List, Option, None, Some, nat_le, if◌then◌else◌}
use Rattle.terms.specs.Terms.{true_of, IsChoice}
use Rattle.terms.specs.declared.term.Term.{Term}
use Rattle.search.specs.declared.assignment.Assignment.{Assignment}
use Rattle.search.specs.Assignments.{says, one_if, decisions, upto, IsPartial}

-- how many numbers below n pass a test
unfoldable pub count_below : (ℕ → Bool) → ℕ → ℕ
count_below test zero = 0
count_below test (suc n) = one_if (test n) + count_below test n

-- how many choices pass a test: none, and the ordinals below a bound
unfoldable pub choices : ℕ → (Option ℕ → Bool) → ℕ
choices bound test = one_if (test None) + count_below (λ k. test (Some k)) bound

unfoldable pub sum_below : (ℕ → ℕ) → ℕ → ℕ
sum_below f zero = 0
sum_below f (suc n) = f n + sum_below f n

-- how many choices the assignments leave of the packages below n
unfoldable pub left : (bound n : ℕ) → List Assignment → ℕ
left bound n made = sum_below (λ pkg. choices bound (says made pkg)) n

-- what is left at a level; a number above all of these at a level that no decision has opened
unfoldable pub digit : (bound n : ℕ) → List Assignment → ℕ → ℕ
digit bound n made level = if nat_le level (decisions made) then left bound n (upto level made) else n * (bound + 1) + 1

unfoldable pub base : ℕ → ℕ → ℕ
base bound n = n * (bound + 1) + 2

-- the number with the first n digits f 0, f 1, .. in a base
unfoldable pub number : ℕ → (ℕ → ℕ) → ℕ → ℕ
number b f zero = 0
number b f (suc n) = number b f n * b + f n

-- the number whose digits say what is left at each level, level 0 first
unfoldable pub rank_within : (bound n : ℕ) → List Assignment → ℕ
rank_within bound n made = number (base bound n) (digit bound n made) (n + 2)

-- the rank, for ordinals and package numbers of 32 bits
unfoldable pub rank : List Assignment → ℕ
rank made = rank_within (2 ^ 32) (2 ^ 32) made

-- the term takes a choice of its package away
abbrev pub TakesAway : List Assignment → ℕ → Term → Type 0
TakesAway made pkg term = (choice : Option ℕ) × IsChoice choice × (says made pkg choice ≡ true) × (true_of term choice ≡ false)

-- the new assignments have a lower rank than each partial solution from which going back to an open level led to the old ones
abbrev pub FallsBack : List Assignment → List Assignment → Type 0
FallsBack old new = (before : List Assignment) (level : ℕ) → IsPartial before → level ≤ decisions before → old ≡ upto level before → rank new < rank before
