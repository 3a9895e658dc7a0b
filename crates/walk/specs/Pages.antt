-- Numbers of packages in pages, and what is chosen of packages.
use Rattle.std.specs.Prelude.{◌≡◌, ◌<◌, ◌≤◌, ◌+◌, ◌*◌, ◌/◌, ◌%◌, ◌⊎◌, ℕ, List, length, slice_index, slice_index_or, Option, None}

-- pages of packages, and the numbers that they have one behind another
pub record PageTable : Type 0 where
  pub pages : List ℕ
  pub numbers : List (Option ℕ)

-- the number that a package has in these: 32 packages share a page
unfoldable pub number_in : List ℕ → List (Option ℕ) → ℕ → Option ℕ
number_in pages numbers p = slice_index_or numbers (32 * slice_index pages (p / 32) + p % 32) None

abbrev pub number_at : PageTable → ℕ → Option ℕ
number_at table p = number_in table.pages table.numbers p

-- each page is whole; the first one has no numbers, and no other one stands for two indexes
pub record IsPaged (pages : List ℕ) (numbers : List (Option ℕ)) : Type 0 where
  pub whole : (count : ℕ) × (length numbers ≡ 32 * count)
  pub within : (i : ℕ) → 32 * slice_index pages i + 32 ≤ length numbers
  pub first : (i : ℕ) → i < 32 → slice_index_or numbers i None ≡ None
  pub apart : (i j : ℕ) → slice_index pages i ≡ slice_index pages j → (slice_index pages i ≡ 0) ⊎ (i ≡ j)

-- packages with the ordinals of their versions
pub record ChosenEntries : Type 0 where
  pub entries : List (ℕ × ℕ)
