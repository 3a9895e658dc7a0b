-- What a walk answers, and what it keeps on its way.
use Rattle.std.specs.Prelude.{◌≡◌, ◌++◌, ◌⊎◌, ℕ, true, false, Contains, List, slice_get, Some, nat_eq}
use Rattle.std.specs.List.{IsDistinct}
use Rattle.std.specs.Map.{keys_of}
use Rattle.versions.specs.Words.{Text}
use Rattle.registry.specs.Places.{IsPlace, named_on}
use Rattle.registry.specs.Registry.{Packages, meets_at, needs_of, number_of}
use Rattle.registry.specs.declared.place.Place.{Place}
use Rattle.registry.specs.Requests.{Wanted, is_allowed}
use Rattle.registry.specs.Selections.{Choices, IsMet, IsReached, Meets}
use Rattle.walk.specs.Choosing.{Follows, IsUnmet, choice_of}
use Rattle.walk.specs.declared.reached.Asker.{Asker}
use Rattle.walk.specs.declared.reached.Asker.TheVariants as asker
use Rattle.walk.specs.declared.reached.Reached.{Reached}
use Rattle.walk.specs.declared.reached.Reached.TheVariants as reached

-- ---- answers

-- no selection that follows the choices meets the request
abbrev pub NoneFollows : Packages → Wanted → Choices → Type 0
NoneFollows packages wanted chooses = (s : Choices) → Follows chooses s → Meets packages wanted s → ⊥

-- the chosen version of a package that is reached along the choices
pub record IsChosen (packages : Packages) (wanted : Wanted) (chooses : Choices) (p k : ℕ) : Type 0 where
  pub reached : IsReached packages wanted.needs chooses p
  pub chosen : chooses p ≡ Some k

-- who asks is the request, or a chosen version that is allowed
abbrev pub IsAsking : Packages → Wanted → Choices → Asker → Type 0
IsAsking packages wanted chooses asker.Request = Unit {0}
IsAsking packages wanted chooses (asker.Version p k) = IsChosen packages wanted chooses p k × (is_allowed packages wanted p k ≡ true)

-- what is asked: the needs of the request, or the dependencies of the version
abbrev pub asked_by : Packages → Wanted → Asker → List (Text × Text)
asked_by packages wanted asker.Request = wanted.needs
asked_by packages wanted (asker.Version p k) = needs_of packages p k

-- these places, each at its index, tell what the version depends on
abbrev pub ArePlaces : Packages → List (List Text) → ℕ → ℕ → List Place → Type 0
ArePlaces packages named p k places = (at : ℕ) (place : Place) → slice_get places at ≡ Some place → IsPlace packages named p k at place

-- these places tell what is asked, as far as a version asks
abbrev pub AreAskedAt : Packages → List (List Text) → Asker → List Place → Type 0
AreAskedAt packages named asker.Request places = Unit {0}
AreAskedAt packages named (asker.Version p k) places = ArePlaces packages named p k places

-- the line at this place is not met by the choices
pub record IsUnmetAt (packages : Packages) (chooses : Choices) (needs : List (Text × Text)) (index : ℕ) : Type 0 where
  pub name : Text
  pub need : Text
  pub at : slice_get needs index ≡ Some (name, need)
  pub unmet : IsUnmet packages chooses name need

-- who asks has at this place what is not met
pub record IsObstacle (packages : Packages) (wanted : Wanted) (chooses : Choices) (asker : Asker) (index : ℕ) : Type 0 where
  pub asks : IsAsking packages wanted chooses asker
  pub place : IsUnmetAt packages chooses (asked_by packages wanted asker) index
  pub none : NoneFollows packages wanted chooses

-- the chosen version of a package that is reached is not allowed
pub record IsForbidden (packages : Packages) (wanted : Wanted) (chooses : Choices) (p k : ℕ) : Type 0 where
  pub chosen : IsChosen packages wanted chooses p k
  pub forbidden : is_allowed packages wanted p k ≡ false
  pub none : NoneFollows packages wanted chooses

-- what the list selects meets the request and follows the choices, and each package stands once
pub record IsSelected (packages : Packages) (wanted : Wanted) (chooses : Choices) (list : List (ℕ × ℕ)) : Type 0 where
  pub meets : Meets packages wanted (choice_of list)
  pub follows : Follows chooses (choice_of list)
  pub once : IsDistinct nat_eq (keys_of list)

-- a selection along the choices, or what stands in the way of each
abbrev pub ReachesBy : Packages → Wanted → Choices → Reached → Type 0
ReachesBy packages wanted chooses (reached.Selection list) = IsSelected packages wanted chooses list.items
ReachesBy packages wanted chooses (reached.Unmet asker index) = IsObstacle packages wanted chooses asker index
ReachesBy packages wanted chooses (reached.NotAllowed p k) = IsForbidden packages wanted chooses p k

-- ---- on the way

-- what was found stays at its place
abbrev pub Grows : List (ℕ × ℕ) → List (ℕ × ℕ) → Type 0
Grows old new = (more : List (ℕ × ℕ)) × (new ≡ old ++ more)

-- each need is met
abbrev pub AreMet : Packages → Choices → List (Text × Text) → Type 0
AreMet packages s needs = (name need : Text) → Contains needs (name, need) → IsMet packages s name need

-- the need at this place, if there is one, is met
abbrev pub IsMetAt : Packages → Choices → List (Text × Text) → ℕ → Type 0
IsMetAt packages s needs index = (name need : Text) → slice_get needs index ≡ Some (name, need) → IsMet packages s name need

-- each package is one of before, or the package of this number
abbrev pub ComesAs : ℕ → Choices → Choices → Type 0
ComesAs target old new = (p k : ℕ) → new p ≡ Some k → (old p ≡ Some k) ⊎ (target ≡ p)

-- the package of this number is named by one of the needs
pub record IsNamed (packages : Packages) (needs : List (Text × Text)) (p : ℕ) : Type 0 where
  pub name : Text
  pub need : Text
  pub among : Contains needs (name, need)
  pub numbered : number_of packages name ≡ Some p

-- each package is one of before, or one that the needs name
abbrev pub ComeFrom : Packages → List (Text × Text) → Choices → Choices → Type 0
ComeFrom packages needs old new = (p k : ℕ) → new p ≡ Some k → (old p ≡ Some k) ⊎ IsNamed packages needs p

-- the same of what was found, before and after
abbrev pub FoundFrom : Packages → List (Text × Text) → List (ℕ × ℕ) → List (ℕ × ℕ) → Type 0
FoundFrom packages needs old new = ComeFrom packages needs (choice_of old) (choice_of new)

-- the line of who asks at this place is met by what was found
abbrev pub FoundMeets : Packages → List (Text × Text) → ℕ → List (ℕ × ℕ) → Type 0
FoundMeets packages needs index found = IsMetAt packages (choice_of found) needs index

-- the line of who asks at this place is not met by the choices
abbrev pub IsUnmetOf : Packages → Wanted → Choices → Asker → ℕ → Type 0
IsUnmetOf packages wanted chooses asker index = IsUnmetAt packages chooses (asked_by packages wanted asker) index

-- the version is allowed, and its dependencies are met
pub record IsChecked (packages : Packages) (wanted : Wanted) (s : Choices) (p k : ℕ) : Type 0 where
  pub allowed : is_allowed packages wanted p k ≡ true
  pub met : AreMet packages s (needs_of packages p k)

-- the version of the package meets the requirement that is named at the place
pub record MeetsNamed (packages : Packages) (named : List (List Text)) (place : Place) (ordinal : ℕ) : Type 0 where
  pub need : Text
  pub stands : slice_get (named_on named place.target) place.need ≡ Some need
  pub meeting : meets_at packages place.target ordinal need ≡ true

-- the needs of the request are met, and each version that is chosen is checked
pub record AreAllChecked (packages : Packages) (wanted : Wanted) (s : Choices) : Type 0 where
  pub needs : AreMet packages s wanted.needs
  pub checked : (p k : ℕ) → s p ≡ Some k → IsChecked packages wanted s p k

-- what was found is chosen and reached, and the request's needs are met; each version that was found is checked, or is left to be followed
pub record IsWalk (packages : Packages) (wanted : Wanted) (chooses : Choices) (found left : List (ℕ × ℕ)) : Type 0 where
  pub follows : Follows chooses (choice_of found)
  pub reached : (p k : ℕ) → choice_of found p ≡ Some k → IsReached packages wanted.needs chooses p
  pub needs : AreMet packages (choice_of found) wanted.needs
  pub among : (p k : ℕ) → Contains left (p, k) → choice_of found p ≡ Some k
  pub checked : (p k : ℕ) → choice_of found p ≡ Some k → Contains left (p, k) ⊎ IsChecked packages wanted (choice_of found) p k
