-- The answer of a request: its newest selection as a list of names and versions, or that there is none.
use Rattle.std.specs.Prelude.{◌≡◌, ℕ, map, List, [], Option, None, Some, IsSorted, nat_eq}
use Rattle.std.specs.List.{IsDistinct}
use Rattle.std.specs.Map.{keys_of}
use Rattle.versions.specs.Words.{Text}
use Rattle.registry.specs.Lawful.{IsRegistry}
use Rattle.registry.specs.Registry.{Packages, Publication, publication_at}
use Rattle.registry.specs.Requests.{Wanted}
use Rattle.registry.specs.Selections.{Choices, Meets}
use Rattle.walk.specs.Choosing.{choice_of}
use Rattle.walk.specs.Names.{by_name, name_of}
use Rattle.walk.specs.Newest.{IsNewest}

abbrev pub version_or_none : Option Publication → Text
version_or_none None = []
version_or_none (Some publication) = publication.version

-- a package and an ordinal, told by the package's name and the version's text
abbrev pub told : Packages → ℕ × ℕ → Text × Text
told packages chosen = (name_of packages chosen.0, version_or_none (publication_at packages chosen.0 chosen.1))

-- the list tells the selection: each package once by its name and its version's text, in the order of the names' bytes
pub record Tells (packages : Packages) (s : Choices) (list : List (Text × Text)) : Type 0 where
  pub chosen : List (ℕ × ℕ)
  pub selects : choice_of chosen ≡ s
  pub once : IsDistinct nat_eq (keys_of chosen)
  pub sorted : IsSorted (by_name packages) chosen
  pub told : list ≡ map (told packages) chosen

-- the list tells the newest selection of the request
pub record TellsNewest (packages : Packages) (wanted : Wanted) (list : List (Text × Text)) : Type 0 where
  pub selection : Choices
  pub newest : IsNewest packages wanted selection
  pub tells : Tells packages selection list

-- what a request is answered
pub data Answer : Type 0 where
  Selected : List (Text × Text) → Answer
  NoSelection : Answer

-- the list is that of the newest selection, or no selection meets the request
abbrev pub IsAnswer : Packages → Wanted → Answer → Type 0
IsAnswer packages wanted (Selected list) = TellsNewest packages wanted list
IsAnswer packages wanted NoSelection = (s : Choices) → Meets packages wanted s → ⊥

-- a request has one answer at most
abbrev pub OneAnswer : Type 0
OneAnswer = (packages : Packages) (wanted : Wanted) (a b : Answer) → IsRegistry packages → IsAnswer packages wanted a → IsAnswer packages wanted b → a ≡ b

-- and it has one
abbrev pub SomeAnswer : Type 0
SomeAnswer = (packages : Packages) (wanted : Wanted) → (a : Answer) × IsAnswer packages wanted a
