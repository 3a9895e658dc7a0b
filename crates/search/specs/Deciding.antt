-- Decisions in the order of the walk, each for the best version that is left.
use Rattle.std.specs.Prelude.{◌≡◌, ◌⊎◌, ℕ, zero, suc, true, false, List, [], ◌∷◌, None, Some, slice_get}
use Rattle.versions.specs.Words.{Text}
use Rattle.search.specs.declared.assignment.Assignment.{Assignment}
use Rattle.search.specs.declared.assignment.Why.{Why}
use Rattle.search.specs.declared.assignment.Why.TheVariants.{Decided, Derived}
use Rattle.search.specs.Assignments.{decided, says}
use Rattle.registry.specs.Registry.{Packages, number_of}
use Rattle.registry.specs.Requests.{Wanted, is_allowed}
use Rattle.walk.specs.Newest.{IsAhead, next_package}
use Rattle.oracle.specs.declared.task.Task.{Task}

abbrev pub with_decision : ℕ → Why → List (ℕ × ℕ) → List (ℕ × ℕ)
with_decision zero why rest = rest
with_decision (suc n) (Decided ordinal) rest = (suc n, ordinal) ∷ rest
with_decision (suc n) (Derived cause) rest = rest

-- what was decided, but for the root: packages with their versions, in order
abbrev pub decisions_in : List Assignment → List (ℕ × ℕ)
decisions_in [] = []
decisions_in (a ∷ made) = with_decision a.pkg a.why (decisions_in made)

-- each version of the package that is preferred to this one is not allowed, or ruled out by the assignments
abbrev pub IsBestLeft : Packages → Wanted → List Assignment → ℕ → ℕ → Type 0
IsBestLeft packages wanted made p k = (j : ℕ) → IsAhead packages wanted p j k → (is_allowed packages wanted p j ≡ false) ⊎ (says made p (Some j) ≡ false)

-- a decision for the next package of the walk, for a version that is allowed, and the best that is left
pub record IsInOrder (packages : Packages) (wanted : Wanted) (before : List Assignment) (p k : ℕ) : Type 0 where
  pub next : next_package packages wanted.needs (decisions_in before) ≡ Some p
  pub allowed : is_allowed packages wanted p k ≡ true
  pub best : IsBestLeft packages wanted before p k

-- the root's decision, or one in the order of the walk
abbrev pub IsPlaced : Packages → Wanted → List Assignment → ℕ → ℕ → Type 0
IsPlaced packages wanted before zero k = k ≡ 0
IsPlaced packages wanted before (suc n) k = IsInOrder packages wanted before (suc n) k

-- the package comes next in the order of the walk
abbrev pub IsTurnOf : Task → List Assignment → ℕ → Type 0
IsTurnOf task made p = next_package task.registry.now.packages task.request.now.needs (decisions_in made) ≡ Some p

-- no package comes next
abbrev pub IsEndOfOrder : Task → List Assignment → Type 0
IsEndOfOrder task made = next_package task.registry.now.packages task.request.now.needs (decisions_in made) ≡ None

-- the package comes next that the line at a place names, if that is not decided
abbrev pub IsTurnAt : Task → List Assignment → List (Text × Text) → ℕ → Type 0
IsTurnAt task made lines index = (line : Text × Text) (p : ℕ) → slice_get lines index ≡ Some line → number_of task.registry.now.packages line.0 ≡ Some p → decided made p ≡ None → IsTurnOf task made p
