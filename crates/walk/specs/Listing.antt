-- Packages as the walk comes to them, by versions that are given, and the package that comes next.
use Rattle.std.specs.Prelude.{◌≡◌, ◌<◌, ◌≤◌, ◌++◌, ◌⊎◌, ℕ, zero, suc, Bool, true, false, List, [], ◌∷◌, length, map, insert, slice_get, slice_index_or, take, Option, None, Some}
use Rattle.std.specs.List.{AllByRecursion}
use Rattle.versions.specs.Words.{Text}
use Rattle.registry.specs.Registry.{Packages, needs_of, number_of}
use Rattle.registry.specs.Requests.{Wanted}
use Rattle.registry.specs.Selections.{Choices, Meets}
use Rattle.walk.specs.Choosing.{Follows, choice_of}
use Rattle.walk.specs.Newest.{AreWalked, in_name_order, insert_by_name, next_package}
use Rattle.walk.specs.declared.listing.WalkListing.{WalkListing}
use Rattle.walk.specs.declared.listing.NextPackage.{NextPackage}
use Rattle.walk.specs.declared.order.Order.{Order}
use Rattle.walk.specs.declared.reached.Asker.{Asker}
use Rattle.walk.specs.declared.reached.Asker.TheVariants as asker

-- the packages stand in the order of the walk, each with the version that is chosen
pub record IsListing (packages : Packages) (needs : List (Text × Text)) (chooses : Choices) (found : List (ℕ × ℕ)) : Type 0 where
  pub walked : AreWalked packages needs found
  pub chosen : (i : ℕ) (e : ℕ × ℕ) → slice_get found i ≡ Some e → chooses e.0 ≡ Some e.1

-- what is asked: the needs, or the dependencies of a version
abbrev pub lines_of : Packages → List (Text × Text) → Asker → List (Text × Text)
lines_of packages needs asker.Request = needs
lines_of packages needs (asker.Version p k) = needs_of packages p k

-- who asks is the request, or a version that is chosen
abbrev pub AsksBy : Choices → Asker → Type 0
AsksBy chooses asker.Request = Unit {0}
AsksBy chooses (asker.Version p k) = chooses p ≡ Some k

-- the package is named by the line at this place
pub record IsAskedAt (packages : Packages) (needs : List (Text × Text)) (chooses : Choices) (next : NextPackage) : Type 0 where
  pub line : Text × Text
  pub asks : AsksBy chooses next.asker
  pub at : slice_get (lines_of packages needs next.asker) next.index ≡ Some line
  pub numbered : number_of packages line.0 ≡ Some next.pkg

-- the package comes next, by the line at this place, and nothing is chosen of it
pub record IsNext (packages : Packages) (needs : List (Text × Text)) (chooses : Choices) (found : List (ℕ × ℕ)) (next : NextPackage) : Type 0 where
  pub comes : next_package packages needs found ≡ Some next.pkg
  pub none : chooses next.pkg ≡ None
  pub asked : IsAskedAt packages needs chooses next

abbrev pub EndsWith : Packages → List (Text × Text) → Choices → List (ℕ × ℕ) → Option NextPackage → Type 0
EndsWith packages needs chooses found None = next_package packages needs found ≡ None
EndsWith packages needs chooses found (Some next) = IsNext packages needs chooses found next

-- what is listed, up to a package of which nothing is chosen, or to the end
pub record IsListed (packages : Packages) (needs : List (Text × Text)) (chooses : Choices) (listed : WalkListing) : Type 0 where
  pub listing : IsListing packages needs chooses listed.found.items
  pub ends : EndsWith packages needs chooses listed.found.items listed.next

-- the list has each package of which something is chosen
abbrev pub AreAll : Choices → List (ℕ × ℕ) → Type 0
AreAll chooses list = (p k : ℕ) → 1 ≤ p → chooses p ≡ Some k → choice_of list p ≡ Some k

-- ---- what was found

-- the line's package was found, if it has a number
abbrev pub IsPassed : Packages → List (ℕ × ℕ) → Text × Text → Type 0
IsPassed packages found line = (p : ℕ) → number_of packages line.0 ≡ Some p → (k : ℕ) × (choice_of found p ≡ Some k)

-- and so of each line
abbrev pub AllPassed : Packages → List (ℕ × ℕ) → List (Text × Text) → Type 0
AllPassed packages found lines = (j : ℕ) (line : Text × Text) → slice_get lines j ≡ Some line → IsPassed packages found line

-- ---- laws

-- there is one list in the order of the walk, to the end, and one that has all that is chosen is it
abbrev pub OneListInOrder : Type 0
OneListInOrder = (packages : Packages) (needs : List (Text × Text)) (chooses : Choices) (found list : List (ℕ × ℕ)) (next : Option NextPackage) → IsListing packages needs chooses found → EndsWith packages needs chooses found next
    → IsListing packages needs chooses list → AreAll chooses list → found ≡ list

-- behind a list after which nothing comes next, what the needs and each version of it ask for was found
abbrev pub NothingComesNext : Type 0
NothingComesNext = (packages : Packages) (needs : List (Text × Text)) (list : List (ℕ × ℕ)) → next_package packages needs list ≡ None
    → AllPassed packages list needs × ((i : ℕ) (e : ℕ × ℕ) → slice_get list i ≡ Some e → AllPassed packages list (needs_of packages e.0 e.1))

-- a list in the order of the walk, which has all that is chosen, selects what a selection does that meets the request and follows the choices
abbrev pub ListIsSelection : Type 0
ListIsSelection = (packages : Packages) (wanted : Wanted) (chooses s : Choices) (list : List (ℕ × ℕ)) → IsListing packages wanted.needs chooses list → AreAll chooses list → Follows chooses s → Meets packages wanted s
    → (p : ℕ) → choice_of list p ≡ s p

-- ---- on the way

-- the packages of the first i lines were found
abbrev pub ArePassed : Packages → List (ℕ × ℕ) → List (Text × Text) → ℕ → Type 0
ArePassed packages found lines i = (j : ℕ) (line : Text × Text) → j < i → slice_get lines j ≡ Some line → IsPassed packages found line

-- the packages that the needs and the first i versions ask for were found
pub record IsPassedTo (packages : Packages) (needs : List (Text × Text)) (found : List (ℕ × ℕ)) (i : ℕ) : Type 0 where
  pub asked : AllPassed packages found (in_name_order needs)
  pub before : (j : ℕ) (e : ℕ × ℕ) → j < i → slice_get found j ≡ Some e → AllPassed packages found (needs_of packages e.0 e.1)

-- the stage was come to: the needs were passed, and the versions at the places before
abbrev pub IsStage : Packages → List (Text × Text) → List (ℕ × ℕ) → ℕ → Type 0
IsStage packages needs found zero = Unit {0}
IsStage packages needs found (suc place) = IsPassedTo packages needs found place

-- the packages stand in the order of the walk, each with the stage in which it was found, whatever versions are chosen now
pub record IsOrder (packages : Packages) (needs : List (Text × Text)) (order : Order) : Type 0 where
  pub walked : AreWalked packages needs order.found.entries
  pub noted : length order.stages.items ≡ length order.found.entries
  pub stages : (i stage : ℕ) → slice_get order.stages.items i ≡ Some stage → IsStage packages needs (take i order.found.entries) stage
  pub come : IsStage packages needs order.found.entries order.stage

-- each has the version that is chosen
abbrev pub AreChosen : Choices → List (ℕ × ℕ) → Type 0
AreChosen chooses found = (i : ℕ) (e : ℕ × ℕ) → slice_get found i ≡ Some e → chooses e.0 ≡ Some e.1

-- each package has a stage, and what was noted last is the stage that was come to
pub record NotesStage (old new : Order) : Type 0 where
  pub found : new.found ≡ old.found
  pub stage : new.stage ≡ old.stage
  pub noted : length old.stages.items ≤ length old.found.entries → length new.stages.items ≡ length old.found.entries
  pub stages : (i stage : ℕ) → slice_get new.stages.items i ≡ Some stage → (slice_get old.stages.items i ≡ Some stage) ⊎ ((length old.stages.items ≤ i) × (stage ≡ old.stage))

-- the package was there, or comes last with its choice; or it was not there and nothing is chosen of it
abbrev pub Visits : Choices → ℕ → List (ℕ × ℕ) → List (ℕ × ℕ) → Bool → Type 0
Visits chooses p old new true = ((new ≡ old) × (k : ℕ) × (choice_of old p ≡ Some k)) ⊎ ((k : ℕ) × (choice_of old p ≡ None) × (chooses p ≡ Some k) × (new ≡ old ++ (p, k) ∷ []))
Visits chooses p old new false = (new ≡ old) × (choice_of old p ≡ None) × (chooses p ≡ None)

-- the line's package is visited; it is answered where nothing is chosen of it
abbrev pub Passes : Packages → Choices → Text × Text → List (ℕ × ℕ) → List (ℕ × ℕ) → Option ℕ → Type 0
Passes packages chooses line old new None = ((p : ℕ) × (number_of packages line.0 ≡ Some p) × Visits chooses p old new true) ⊎ ((number_of packages line.0 ≡ None) × (new ≡ old))
Passes packages chooses line old new (Some p) = (number_of packages line.0 ≡ Some p) × Visits chooses p old new false

-- the same of the line at a place
abbrev pub PassesAt : Packages → Choices → List (Text × Text) → ℕ → List (ℕ × ℕ) → List (ℕ × ℕ) → Option ℕ → Type 0
PassesAt packages chooses lines i old new stopped = (line : Text × Text) × (slice_get lines i ≡ Some line) × Passes packages chooses line old new stopped

-- ---- the order of the needs

-- the need at a place, no texts past the end
abbrev pub need_at : List (Text × Text) → ℕ → Text × Text
need_at needs place = slice_index_or needs place ([], [])

-- the needs at these places are the needs in the order of their names
pub record AreInOrder (needs : List (Text × Text)) (places : List ℕ) : Type 0 where
  pub within : AllByRecursion (λ place. place < length needs) places
  pub order : map (need_at needs) places ≡ in_name_order needs

-- the place is where the need goes among those that stand in the order of their names
abbrev pub GoesAt : Text × Text → List (Text × Text) → ℕ → Type 0
GoesAt need lines place = insert_by_name need lines ≡ insert lines place need
