-- What threads found ahead.
use Rattle.std.specs.Prelude.{◌≡◌, ◌≤◌, ℕ, List, Option, Some, Vec, slice_get, vec_capacity, vec_len}
use Rattle.std.specs.Global.{Global}

-- each slot holds nothing or what was found of the request at its place, which is named by its index
pub record AreInPlace (slots : List (Option ℕ)) : Type 0 where
  pub each : (place index : ℕ) → slice_get slots place ≡ Some (Some index) → index ≡ place

-- slots of the first of so many requests, with room for the others
pub record AreFirst (count : ℕ) (slots : Vec (Option ℕ) Global) : Type 0 where
  pub places : AreInPlace slots.items
  pub fits : vec_len slots ≤ count
  pub room : count ≤ vec_capacity slots
