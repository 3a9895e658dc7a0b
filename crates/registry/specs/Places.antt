-- Where a registry keeps the name and the requirement of each dependency.
use Rattle.std.specs.Prelude.{◌≡◌, ◌≤◌, ◌+◌, ℕ, zero, suc, All, List, [], ◌∷◌, Some, get_or, length, map, slice_get}
use Rattle.versions.specs.Words.{Text}
use Rattle.registry.specs.Publications.{PublicationList}
use Rattle.registry.specs.Registry.{Packages, Publication, needs_of, number_of}
use Rattle.registry.specs.declared.place.Place.{Place}

-- ---- by the number of a package

-- of the requirements that are named on each package those that are named on the one of this number
abbrev pub named_on : List (List Text) → ℕ → List Text
named_on named zero = []
named_on named (suc n) = get_or named n []

-- the version depends at this index on the package that the place tells, with the requirement that it tells
pub record IsPlace (packages : Packages) (named : List (List Text)) (p k index : ℕ) (place : Place) : Type 0 where
  pub name : Text
  pub need : Text
  pub at : slice_get (needs_of packages p k) index ≡ Some (name, need)
  pub number : number_of packages name ≡ Some place.target
  pub stands : slice_get (named_on named place.target) place.need ≡ Some need

-- the places beside the publications of a list, each as far as there is a publication, tell what the package's versions depend on
abbrev pub AreTold : Packages → List (List Text) → ℕ → PublicationList → Type 0
AreTold packages named p list =
    (k index : ℕ) (place : Place) → (length list.publications ≤ k → get_or list.places k [] ≡ []) → slice_get (get_or list.places k []) index ≡ Some place
    → IsPlace packages named p k index place

-- ---- as the registry stores them

-- the requirements that are named on each package
abbrev pub named_of : List PublicationList → List (List Text)
named_of lists = map (λ (list : PublicationList). list.named) lists

-- the name stands at this place among these names, and the requirement among those that are named on the package
pub record StandsAt (names : List Text) (named : List (List Text)) (need : Text × Text) (place : Place) : Type 0 where
  pub index : ℕ
  pub target : place.target ≡ index + 1
  pub name : slice_get names index ≡ Some need.0
  pub requirement : slice_get (get_or named index []) place.need ≡ Some need.1

-- these are the places of the first of these needs
abbrev pub ArePlacesOf : List Text → List (List Text) → List (Text × Text) → List Place → Type 0
ArePlacesOf names named needs places =
    (j : ℕ) (place : Place) → slice_get places j ≡ Some place → (need : Text × Text) × (slice_get needs j ≡ Some need) × StandsAt names named need place

-- beside each publication stand the places of its needs
abbrev pub StandBeside : List Text → List (List Text) → List Publication → List (List Place) → Type 0
StandBeside names named [] places = Unit {0}
StandBeside names named (publication ∷ rest) [] = Unit {0}
StandBeside names named (publication ∷ rest) (first ∷ places) = ArePlacesOf names named publication.needs first × StandBeside names named rest places

abbrev pub ArePlaced : List Text → List (List Text) → PublicationList → Type 0
ArePlaced names named list = StandBeside names named list.publications list.places

-- the same of each package's publications
abbrev pub AreAllPlaced : List Text → List PublicationList → Type 0
AreAllPlaced names lists = All (ArePlaced names (named_of lists)) lists

-- ---- how they grow

-- what is named stays at its place, and right places stay right
pub record IsGrown (old new : PublicationList) : Type 0 where
  pub named : (at : ℕ) (need : Text) → slice_get old.named at ≡ Some need → slice_get new.named at ≡ Some need
  pub placed : (names : List Text) (named : List (List Text)) → ArePlaced names named old → ArePlaced names named new

-- what stands at a place stays there, and right places stay right
pub record Extends (names : List Text) (lists : List PublicationList) (names' : List Text) (lists' : List PublicationList) : Type 0 where
  pub stand : (need : Text × Text) (place : Place) → StandsAt names (named_of lists) need place → StandsAt names' (named_of lists') need place
  pub placed : AreAllPlaced names lists → AreAllPlaced names' lists'
