-- What is kept beside the assignments: for each the one before it on its package and what they say together, and for each package the last one.
use Rattle.std.specs.Prelude.{◌≡◌, ◌<◌, ◌≤◌, ◌^◌, ℕ, suc, List, [], ◌∷◌, ◌++◌, take, length, slice_get, Option, None, Some, nat_eq, Vec, vec_len, vec_capacity, if◌then◌else◌}
use Rattle.std.specs.Option.{option_flatten, option_map, option_or}
use Rattle.terms.specs.Terms.{true_of}
use Rattle.terms.specs.declared.term.Term.{Term}
use Rattle.terms.specs.declared.term.Term.TheVariants.{NotIn}
use Rattle.search.specs.declared.assignment.Assignment.{Assignment}
use Rattle.search.specs.declared.trail.Note.{Note}
use Rattle.search.specs.declared.trail.Trail.{Trail}
use Rattle.search.specs.Assignments.{says, decided}

-- the place of the last assignment on a package
abbrev pub last_place : List Assignment → ℕ → Option ℕ
last_place [] pkg = None
last_place (a ∷ rest) pkg = option_or (option_map (λ i. suc i) (last_place rest pkg)) (if nat_eq a.pkg pkg then Some 0 else None)

-- how many assignments there are up to a place
abbrev pub through : Option ℕ → ℕ
through None = 0
through (Some i) = suc i

-- the place, if any, is one of an assignment on the package
abbrev pub IsPlaceOn : List Assignment → ℕ → Option ℕ → Type 0
IsPlaceOn made pkg None = Unit {0}
IsPlaceOn made pkg (Some i) = (a : Assignment) × (slice_get made i ≡ Some a) × (a.pkg ≡ pkg)

-- the term says of each package what its assignments up to this place say
abbrev pub SaysThrough : List Assignment → Option ℕ → Term → Type 0
SaysThrough made place term = (pkg : ℕ) (choice : Option ℕ) → IsPlaceOn made pkg place → true_of term choice ≡ says (take (through place) made) pkg choice

-- the note of an assignment that came after `before`
pub record IsNote (before : List Assignment) (a : Assignment) (note : Note) : Type 0 where
  pub said : (choice : Option ℕ) → true_of note.said choice ≡ says (before ++ a ∷ []) a.pkg choice
  pub decided : note.decided ≡ decided (before ++ a ∷ []) a.pkg
  pub earlier : note.earlier ≡ last_place before a.pkg

-- what is noted is so, where `heads` gives a package's last place
pub record IsNoted (made : List Assignment) (notes : List Note) (heads : ℕ → Option (Option ℕ)) : Type 0 where
  pub lengths : length notes ≡ length made
  pub each : (i : ℕ) (a : Assignment) (note : Note) → slice_get made i ≡ Some a → slice_get notes i ≡ Some note → IsNote (take i made) a note
  pub last : (pkg : ℕ) → option_flatten (heads pkg) ≡ last_place made pkg

-- no package has a number of more than 32 bits
abbrev pub AreFew : List (Option ℕ) → Type 0
AreFew heads = length heads ≤ 2 ^ 32

abbrev pub IsTrail : Trail → Type 0
IsTrail l = IsNoted l.made.items l.notes.items (λ pkg. slice_get l.heads.items pkg) × (l.any ≡ NotIn []) × AreFew l.heads.items

-- both give each package the same last place, or none
abbrev pub AreSameHeads : List (Option ℕ) → List (Option ℕ) → Type 0
AreSameHeads heads heads' = (pkg : ℕ) → option_flatten (slice_get heads' pkg) ≡ option_flatten (slice_get heads pkg)

-- there is room for one assignment more, on this package
abbrev pub HasRoom : {A B : Type 0} → Vec Assignment A → Vec Note B → List (Option ℕ) → ℕ → Type 0
HasRoom made notes heads pkg = (vec_len made < vec_capacity made) × (vec_len notes < vec_capacity notes) × (pkg < length heads)
