-- Room that is made for a command, so that it needs no memory.
use Rattle.std.specs.Prelude.{◌≡◌, ◌<◌, ℕ, Bool, List, [], ◌∷◌, All, length, map, position, slice_index, Option, Some, None, if◌then◌else◌}
use Rattle.std.specs.List.{list_any}
use Rattle.std.specs.Option.{option_map}
use Rattle.std.specs.Str.{bytes_eq}
use Rattle.versions.specs.Words.{Text}
use Rattle.registry.specs.Publications.{PublicationList, rooms_of}
use Rattle.registry.specs.Registry.{Packages}
use Rattle.registry.specs.Step.{Change, Publish, Unyank, Yank}
use Rattle.registry.specs.declared.ready.Ready.{Ready}

-- the packages, the requirements that are named on each, how many commands were accepted, and the publication that room is
-- made for: its package's name and its needs
pub record State : Type 0 where
  pub packages : Packages
  pub named : List (List Text)
  pub revision : ℕ
  pub ready : Option (Text × List (Text × Text))

-- there is room for a command; a yank and its undoing need none
abbrev pub HasRoomFor : State → Change → Type 0
HasRoomFor state (Publish name version needs) = state.ready ≡ Some (name, needs)
HasRoomFor state (Yank name version) = Unit {0}
HasRoomFor state (Unyank name version) = Unit {0}

-- ---- what is made ready

-- the names of these needs that are not known, in order
abbrev pub unknown_names : (Text → Bool) → List (Text × Text) → List Text
unknown_names known [] = []
unknown_names known (d ∷ rest) = if known d.0 then unknown_names known rest else d.0 ∷ unknown_names known rest

-- the names of these needs that are not among these, in order
abbrev pub names_beside : List Text → List (Text × Text) → List Text
names_beside names needs = unknown_names (λ name. list_any (bytes_eq name) names) needs

-- the names of packages, each with its list
abbrev pub names_in : List (Text × PublicationList) → List Text
names_in packages = map (λ (p : Text × PublicationList). p.0) packages

-- no package has a publication
abbrev pub AreEmpty : List (Text × PublicationList) → Type 0
AreEmpty packages = All (λ (p : Text × PublicationList). p.1.publications ≡ []) packages

-- how many more publications fit the list at this place, or the one of a package that is new
abbrev pub room_where : List ℕ → ℕ → Option ℕ → ℕ
room_where more own None = own
room_where more own (Some i) = slice_index more i

-- what was made ready is what the publication needs, beside these names and lists with room for so many more
pub record IsReady (names : List Text) (names_room : ℕ) (lists : List PublicationList) (lists_room : ℕ) (ready : Ready) : Type 0 where
  pub placed : ready.place ≡ position (bytes_eq ready.name) names
  pub named : names_in ready.added.items ≡ names_beside names ready.needs
  pub names_fit : length ready.added.items < names_room
  pub lists_fit : length ready.added.items < lists_room
  -- the list of the package itself, where it is new
  pub own : ready.own.publications ≡ []
  pub empty : AreEmpty ready.added.items
  pub room : 0 < room_where (rooms_of lists) ready.own.room ready.place

-- each list stays at its place, with as much room
abbrev pub KeepTheirRooms : List PublicationList → List PublicationList → Type 0
KeepTheirRooms old new = (i : ℕ) → i < length old → (i < length new) × (slice_index (rooms_of new) i ≡ slice_index (rooms_of old) i)

-- the publication that something was made ready for
abbrev pub publication_for : Option Ready → Option (Text × List (Text × Text))
publication_for ready = option_map (λ (r : Ready). (r.name, r.needs)) ready

-- what was made ready, if anything, is what the publication needs
abbrev pub IsReadyIfAny : List Text → ℕ → List PublicationList → ℕ → Option Ready → Type 0
IsReadyIfAny names names_room lists lists_room None = Unit {0}
IsReadyIfAny names names_room lists lists_room (Some ready) = IsReady names names_room lists lists_room ready
