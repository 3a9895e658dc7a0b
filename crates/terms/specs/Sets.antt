-- Finite sets of ordinals, as ascending lists.
use Rattle.std.specs.Prelude.{◌≡◌, ◌≤◌, ◌||◌, ℕ, suc, Bool, true, List, [], ◌∷◌, nat_eq}
use Rattle.std.specs.List.{list_any}

-- whether k is in the set
abbrev pub has : List ℕ → ℕ → Bool
has set k = list_any (λ x. nat_eq x k) set

-- the set has exactly these ordinals
abbrev pub HasExactly : List ℕ → List ℕ → Type 0
HasExactly set ordinals = (k : ℕ) → has set k ≡ has ordinals k

-- each ordinal of the first is in the second
abbrev pub IsSubset : List ℕ → List ℕ → Type 0
IsSubset first second = (k : ℕ) → has first k ≡ true → has second k ≡ true

-- the new set has the ordinals of the old one, and this one
abbrev pub AddsOrdinal : List ℕ → List ℕ → ℕ → Type 0
AddsOrdinal old new ordinal = (k : ℕ) → has new k ≡ (has old k || nat_eq ordinal k)

-- each is above the one before, and the first is at least low
abbrev pub AscendingFrom : ℕ → List ℕ → Type 0
AscendingFrom low [] = Unit {0}
AscendingFrom low (x ∷ xs) = (low ≤ x) × AscendingFrom (suc x) xs

-- each is above the one before, so that sets with the same ordinals are equal
abbrev pub IsAscending : List ℕ → Type 0
IsAscending = AscendingFrom 0

-- sets with the same ordinals are equal
abbrev pub SameSet : Type 0
SameSet = (first second : List ℕ) → IsAscending first → IsAscending second → HasExactly first second → first ≡ second
