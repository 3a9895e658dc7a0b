-- The places of a store, of which some are empty.
use Rattle.std.specs.Prelude.{◌≡◌, ◌<◌, ◌⊎◌, ℕ, Bool, true, false, not, List, [], ◌∷◌, Option, None, Some, filter, slice_get, slice_set}
use Rattle.versions.specs.Words.{Text, meets}
use Rattle.derivations.specs.Facts.{Terms}
use Rattle.store.specs.Indexes.{Indexed, IsUnder}
use Rattle.store.specs.Keys.{key_of}
use Rattle.store.specs.Stored.{conclusion_of, is_on, same_terms}
use Rattle.store.specs.declared.index.Link.{Link}
use Rattle.derivations.specs.Lines.{Line}

abbrev pub Slots : Type 0
Slots = List (Option (List Line))

-- the members that stand in the places, in order
abbrev pub kept : Slots → List (List Line)
kept [] = []
kept (None ∷ rest) = kept rest
kept (Some lines ∷ rest) = lines ∷ kept rest

-- this member stands in this place
abbrev pub IsMemberAt : Slots → ℕ → List Line → Type 0
IsMemberAt slots place lines = slice_get slots place ≡ Some (Some lines)

-- whether a member stands in a place and passes the test
abbrev pub passes_in : (List Line → Bool) → Option (List Line) → Bool
passes_in test None = false
passes_in test (Some lines) = test lines

abbrev pub passes_at : (List Line → Bool) → Option (Option (List Line)) → Bool
passes_at test None = false
passes_at test (Some slot) = passes_in test slot

-- whether the lines conclude these terms
abbrev pub concludes : Terms → List Line → Bool
concludes terms lines = same_terms (conclusion_of lines) terms

-- whether the lines have a premise with this target whose requirement the version meets
abbrev pub is_met : ℕ → Text → List Line → Bool
is_met p version lines = is_on p (λ need. meets need version) lines

-- ---- members that go

-- those that have no such premise
abbrev pub unmet : ℕ → Text → List (List Line) → List (List Line)
unmet p version members = filter (λ lines. not (is_met p version lines)) members

-- the member in this place has gone, which passes the test, or nothing has changed
abbrev pub IsDroppedAt : (List Line → Bool) → ℕ → Slots → Slots → Type 0
IsDroppedAt test place old new = (new ≡ old) ⊎ ((passes_at test (slice_get old place) ≡ true) × (new ≡ slice_set old place None))

-- a place whose member, if it passes the test, may have gone
abbrev pub IsThinnedAt : (List Line → Bool) → Option (List Line) → Option (List Line) → Type 0
IsThinnedAt test old new = (new ≡ old) ⊎ ((new ≡ None) × (passes_in test old ≡ true))

abbrev pub AreThinned : (List Line → Bool) → Slots → Slots → Type 0
AreThinned test [] [] = Unit {0}
AreThinned test [] (new ∷ news) = ⊥
AreThinned test (old ∷ olds) [] = ⊥
AreThinned test (old ∷ olds) (new ∷ news) = IsThinnedAt test old new × AreThinned test olds news

-- ---- where members are found

-- a member is found under the key of its conclusion
abbrev pub HasKey : List Line → ℕ → Type 0
HasKey lines number = key_of (conclusion_of lines) ≡ number

-- each member is found under each of its numbers
abbrev pub AreFound : (List Line → ℕ → Type 0) → Indexed → Slots → Type 0
AreFound Has index slots = index.whole ≡ true → (place : ℕ) (lines : List Line) (number : ℕ) → IsMemberAt slots place lines → Has lines number → IsUnder index.links number place

-- each member among the first places
abbrev pub AreFoundBelow : (List Line → ℕ → Type 0) → ℕ → Indexed → Slots → Type 0
AreFoundBelow Has first index slots = index.whole ≡ true → (place : ℕ) (lines : List Line) (number : ℕ) → IsMemberAt slots place lines → place < first → Has lines number → IsUnder index.links number place

-- members may be gone, and each other stands where it stood
abbrev pub AreFewer : Slots → Slots → Type 0
AreFewer old new = (place : ℕ) (lines : List Line) → IsMemberAt new place lines → IsMemberAt old place lines

-- no member that stands under the number passes the test
abbrev pub NoneUnder : (List Line → Bool) → List Link → ℕ → Slots → Type 0
NoneUnder test links number slots = (place : ℕ) (lines : List Line) → IsMemberAt slots place lines → IsUnder links number place → test lines ≡ false
