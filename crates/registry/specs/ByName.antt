-- Lines in the order of their names.
use Rattle.std.specs.Prelude.{ℕ, List, [], length, slice_index_or, IsPermutation, IsSorted}
use Rattle.std.specs.Cmp.Lexicographic.{slice_cmp}
use Rattle.std.specs.List.{range_with_len}
use Rattle.std.specs.Ordering.{nat_cmp}
use Rattle.std.specs.declared.cmp.Ordering.{Ordering}
use Rattle.versions.specs.Words.{Text}

-- the name at a place, no text past the end
abbrev pub name_at : List Text → ℕ → Text
name_at names place = slice_index_or names place []

-- how two places compare, by the bytes of the names there
abbrev pub by_name : List Text → ℕ → ℕ → Ordering
by_name names a b = slice_cmp nat_cmp (name_at names a) (name_at names b)

-- each place stands once, in the order of the names
pub record IsByName (names : List Text) (places : List ℕ) : Type 0 where
  pub moved : IsPermutation (range_with_len 0 (length names)) places
  pub sorted : IsSorted (by_name names) places
