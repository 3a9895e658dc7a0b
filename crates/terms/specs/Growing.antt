-- A set that grows, with room.
use Rattle.std.specs.Prelude.{ℕ, List}

-- the ordinals, ascending, and how many can come in without memory
pub record Growing : Type 0 where
  pub ordinals : List ℕ
  pub room : ℕ
