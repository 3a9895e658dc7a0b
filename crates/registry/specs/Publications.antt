-- What a contract sees of the publications of a package as they are stored, and of the lists of them.
use Rattle.std.specs.Prelude.{◌≡◌, ◌↔◌, ◌<◌, ◌≤◌, ◌+◌, ℕ, All, Bool, true, List, [], ◌∷◌, length, map, slice_get, slice_range, Option, None, Some}
use Rattle.std.specs.List.{list_any}
use Rattle.releases.specs.declared.release.Release.{Release}
use Rattle.versions.specs.Words.{Text}
use Rattle.registry.specs.Registry.{Packages, Publication}
use Rattle.registry.specs.declared.place.Place.{Place}
use Rattle.registry.specs.declared.span.Span.{Span}

-- the publications of a package in order, the requirements that are named on it, where what each publication depends on
-- is kept, and how many more fit
pub record PublicationList : Type 0 where
  pub publications : List Publication
  pub named : List Text
  pub places : List (List Place)
  pub room : ℕ

-- releases, and beside each what it depends on
abbrev pub publications_of : List Release → List (List (Text × Text)) → List Publication
publications_of [] needs = []
publications_of (release ∷ releases) [] = []
publications_of (release ∷ releases) (needs ∷ others) =
    (record { version = release.version; needs = needs; yanked = release.yanked }) ∷ publications_of releases others

-- needs that are the same as those before them
abbrev pub IsAlike : List (List (Text × Text)) → ℕ → Type 0
IsAlike needs k = (k < length needs) × (j : ℕ) × (j + 1 ≡ k) × (slice_get needs k ≡ slice_get needs j)

-- the last of these needs are the same as others
abbrev pub EndsWith : List (List (Text × Text)) → List (Text × Text) → Type 0
EndsWith needs next = (j : ℕ) × (j + 1 ≡ length needs) × (slice_get needs j ≡ Some next)

-- beside each publication a mark, whether it needs what the one before it does
abbrev pub AreAlike : List Bool → List (List (Text × Text)) → Type 0
AreAlike marks needs = (length marks ≡ length needs) × ((k : ℕ) → slice_get marks k ≡ Some true ↔ IsAlike needs k)

-- all of these needs are the same
abbrev pub AreSame : List (List (Text × Text)) → Type 0
AreSame needs = (k j : ℕ) → j + 1 ≡ k → k < length needs → slice_get needs k ≡ slice_get needs j

-- the parts of a list of places, each with its beginning and its end
abbrev pub parts_of : List Place → List Span → List (List Place)
parts_of places spans = map (λ (span : Span). slice_range places span.from span.to) spans

-- each part ends within so many
abbrev pub EndWithin : ℕ → List Span → Type 0
EndWithin count spans = All (λ (span : Span). span.to ≤ count) spans

-- beside each stands how many needs it has
abbrev pub AreCounted : List Span → List (List (Text × Text)) → Type 0
AreCounted spans needs = map (λ (span : Span). span.needs) spans ≡ map (λ (own : List (Text × Text)). length own) needs

-- whether one of the releases is yanked
abbrev pub any_yanked : List Release → Bool
any_yanked releases = list_any (λ (release : Release). release.yanked) releases

-- the publications that a list has, where there is one
abbrev pub publications_in : Option PublicationList → List Publication
publications_in None = []
publications_in (Some list) = list.publications

-- the lists of publications, package by package
abbrev pub lists_of : List PublicationList → List (List Publication)
lists_of lists = map (λ (list : PublicationList). list.publications) lists

-- the packages with these names and these lists of publications
abbrev pub packages_of : List Text → List (List Publication) → Packages
packages_of [] lists = []
packages_of (name ∷ names) [] = []
packages_of (name ∷ names) (versions ∷ lists) = (record { name = name; versions = versions }) ∷ packages_of names lists

-- the packages with these names and these lists as they are stored
abbrev pub packages_in : List Text → List PublicationList → Packages
packages_in names lists = packages_of names (lists_of lists)

-- how many more publications fit each list
abbrev pub rooms_of : List PublicationList → List ℕ
rooms_of lists = map (λ (list : PublicationList). list.room) lists
