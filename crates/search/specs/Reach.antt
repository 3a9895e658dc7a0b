-- How far the assignments must go to satisfy terms.
use Rattle.std.specs.Prelude.{◌≡◌, ◌≤◌, ◌<◌, ◌-◌, ℕ, true, List, take, length, slice_get, Option, Some}
use Rattle.terms.specs.Terms.{true_of}
use Rattle.terms.specs.declared.term.Term.{Term}
use Rattle.search.specs.declared.assignment.Assignment.{Assignment}
use Rattle.search.specs.Assignments.{says}
use Rattle.search.specs.Trail.{IsPlaceOn, through}
use Rattle.search.specs.Satisfying.{Satisfied, SatisfiedBut}

-- the assignments leave of the package no choice of which the term is false
abbrev pub Holds : List Assignment → ℕ → Term → Type 0
Holds made pkg term = (choice : Option ℕ) → says made pkg choice ≡ true → true_of term choice ≡ true

-- the term holds with the assignments up to the place, which is one on the package before another, or with none
pub record IsHeldBefore (made : List Assignment) (pkg : ℕ) (term : Term) (at : ℕ) (place : Option ℕ) : Type 0 where
  pub on : IsPlaceOn made pkg place
  pub before : through place ≤ at
  pub holds : Holds (take (through place) made) pkg term

-- the fact holds of the number, and of none below it
abbrev pub IsLeast : (ℕ → Type 0) → ℕ → Type 0
IsLeast P count = P count × ((k : ℕ) → k < count → P k → ⊥)

-- so many assignments from the first on are the shortest beginning with which the term must hold
pub record IsShortestOn (made : List Assignment) (pkg : ℕ) (term : Term) (count : ℕ) : Type 0 where
  pub within : count ≤ length made
  pub least : IsLeast (λ k. Holds (take k made) pkg term) count

-- so many assignments satisfy the terms, the last of them on the package of the term at the place `own`, and so many satisfy the other terms
pub record IsReach (made : List Assignment) (terms : List (ℕ × Term)) (count own others : ℕ) : Type 0 where
  pub some : 1 ≤ count
  pub within : count ≤ length made
  pub own_within : own < length terms
  pub entry : ℕ × Term
  pub at : slice_get terms own ≡ Some entry
  pub on_own : IsPlaceOn made entry.0 (Some (count - 1))
  pub least_own : IsLeast (λ k. Holds (take k made) entry.0 entry.1) count
  pub least : IsLeast (λ k. Satisfied (take k made) terms) count
  pub least_others : IsLeast (λ k. SatisfiedBut (take k made) terms entry.0) others
