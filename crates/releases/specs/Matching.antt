-- What a contract sees of a matching set.
use Rattle.std.specs.Prelude.{◌≡◌, ◌≤◌, ℕ, List, true}
use Rattle.terms.specs.Sets.{has}
use Rattle.releases.specs.declared.matching.Matching.{Matching}
use Rattle.releases.specs.declared.matching.Matching.TheVariants.{Computed, Known, Tested}

-- the ordinals of the set
abbrev pub ordinals_of : Matching → List ℕ
ordinals_of (Known set) = set.now.ordinals
ordinals_of (Computed set) = set.ordinals
ordinals_of (Tested tested) = tested

-- some ordinal of the set is beyond a word
abbrev pub IsBeyondWord : List ℕ → Type 0
IsBeyondWord set = (k : ℕ) × (has set k ≡ true) × (64 ≤ k)

-- no word has room for the set, or it is not kept as one
abbrev pub HasNoWord : Matching → Type 0
HasNoWord (Known set) = IsBeyondWord set.now.ordinals
HasNoWord (Computed set) = IsBeyondWord set.ordinals
HasNoWord (Tested tested) = Unit {0}
