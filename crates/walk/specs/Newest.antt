-- The newest selection of a request.
use Rattle.std.specs.Prelude.{◌≡◌, ◌++◌, ℕ, false, ◌&&◌, ◌||◌, Bool, true, not, List, [], ◌∷◌, take, is_some, slice_get, Option, None, Some, if◌then◌else◌}
use Rattle.std.specs.Cmp.Lexicographic.{slice_cmp}
use Rattle.std.specs.Ordering.{is_lt, nat_cmp}
use Rattle.versions.specs.Words.{Text, precedence}
use Rattle.registry.specs.Lawful.{IsRegistry}
use Rattle.registry.specs.Registry.{Package, Packages, Publication, needs_of, number_of, package_at, publication_at}
use Rattle.registry.specs.Needs.{repeats_name}
use Rattle.registry.specs.Preference.{IsPreferredSelection}
use Rattle.registry.specs.Requests.{Wanted, is_locked}
use Rattle.registry.specs.Selections.{Choices, Meets}
use Rattle.walk.specs.Choosing.{choice_of}

-- ---- which of two versions is preferred

-- the lock names the one and not the other; or the one has higher precedence, and the lock does not name the other alone
abbrev pub is_preferred_to : Wanted → Text → Publication → Publication → Bool
is_preferred_to wanted name one other =
    (is_locked wanted.lock name one.version && not (is_locked wanted.lock name other.version))
    || ((is_locked wanted.lock name one.version || not (is_locked wanted.lock name other.version)) && is_lt (precedence other.version one.version))

-- the version j of the package is preferred to its version k
pub record IsAhead (packages : Packages) (wanted : Wanted) (p j k : ℕ) : Type 0 where
  pub pack : Package
  pub one : Publication
  pub other : Publication
  pub of : package_at packages p ≡ Some pack
  pub first : publication_at packages p j ≡ Some one
  pub second : publication_at packages p k ≡ Some other
  pub preferred : is_preferred_to wanted pack.name one other ≡ true

-- ---- the walk

abbrev pub insert_by_name : Text × Text → List (Text × Text) → List (Text × Text)
insert_by_name need [] = need ∷ []
insert_by_name need (other ∷ rest) = if is_lt (slice_cmp nat_cmp other.0 need.0) then other ∷ insert_by_name need rest else need ∷ other ∷ rest

-- the needs in the order of the bytes of their names
abbrev pub in_name_order : List (Text × Text) → List (Text × Text)
in_name_order [] = []
in_name_order (need ∷ rest) = insert_by_name need (in_name_order rest)

-- what these versions depend on, one after the other, in published order
abbrev pub dependencies_of : Packages → List (ℕ × ℕ) → List (Text × Text)
dependencies_of packages [] = []
dependencies_of packages (e ∷ found) = needs_of packages e.0 e.1 ++ dependencies_of packages found

abbrev pub new_or_later : List (ℕ × ℕ) → Option ℕ → Option ℕ → Option ℕ
new_or_later found None later = later
new_or_later found (Some p) later = if is_some (choice_of found p) then later else Some p

-- the first package of these lines that was not found yet
abbrev pub first_new : Packages → List (ℕ × ℕ) → List (Text × Text) → Option ℕ
first_new packages found [] = None
first_new packages found (line ∷ rest) = new_or_later found (number_of packages line.0) (first_new packages found rest)

-- which package comes next, after these: the needs are asked by name, then each version that was found asks for what it depends on
abbrev pub next_package : Packages → List (Text × Text) → List (ℕ × ℕ) → Option ℕ
next_package packages needs found = first_new packages found (in_name_order needs ++ dependencies_of packages found)

-- they stand in the order of the walk
abbrev pub AreWalked : Packages → List (Text × Text) → List (ℕ × ℕ) → Type 0
AreWalked packages needs found = (i : ℕ) (e : ℕ × ℕ) → slice_get found i ≡ Some e → next_package packages needs (take i found) ≡ Some e.0

-- ---- newest

-- the selection has each of these versions
abbrev pub Has : Choices → List (ℕ × ℕ) → Type 0
Has s found = (p k : ℕ) → choice_of found p ≡ Some k → s p ≡ Some k

-- so it is of each selection that meets the request and has these versions
abbrev pub OfEach : Packages → Wanted → List (ℕ × ℕ) → (Choices → Type 0) → Type 0
OfEach packages wanted found P = (t : Choices) → Meets packages wanted t → Has t found → P t

-- no such selection has this version of the package
abbrev pub IsOut : Packages → Wanted → List (ℕ × ℕ) → ℕ → ℕ → Type 0
IsOut packages wanted found p j = OfEach packages wanted found (λ t. t p ≡ Some j → ⊥)

-- nor one that is preferred to this one
abbrev pub IsBest : Packages → Wanted → List (ℕ × ℕ) → ℕ → ℕ → Type 0
IsBest packages wanted found p k = (j : ℕ) → IsAhead packages wanted p j k → IsOut packages wanted found p j

-- behind these versions the package comes next in the order of the walk, and the version is the best of it
abbrev pub IsTurn : Packages → Wanted → List (ℕ × ℕ) → ℕ × ℕ → Type 0
IsTurn packages wanted before e = (next_package packages wanted.needs before ≡ Some e.0) × IsBest packages wanted before e.0 e.1

-- each stands at its turn
pub record AreBest (packages : Packages) (wanted : Wanted) (found : List (ℕ × ℕ)) : Type 0 where
  pub turns : (i : ℕ) (e : ℕ × ℕ) → slice_get found i ≡ Some e → IsTurn packages wanted (take i found) e

-- it meets the request, and package by package in the order of the walk no selection that meets the request has the same versions before and a preferred one there
pub record IsNewest (packages : Packages) (wanted : Wanted) (s : Choices) : Type 0 where
  pub found : List (ℕ × ℕ)
  pub selects : choice_of found ≡ s
  pub meets : Meets packages wanted s
  pub best : AreBest packages wanted found

-- where the preferred selection meets a request whose lock names nothing twice, it is the newest one
abbrev pub PreferredIsNewest : Type 0
PreferredIsNewest = (packages : Packages) (wanted : Wanted) (t : Choices) → IsRegistry packages → repeats_name wanted.lock ≡ false → IsPreferredSelection packages wanted t → Meets packages wanted t → IsNewest packages wanted t

-- there is one newest selection at most
abbrev pub OneNewestSelection : Type 0
OneNewestSelection = (packages : Packages) (wanted : Wanted) (s t : Choices) → IsRegistry packages → IsNewest packages wanted s → IsNewest packages wanted t → (p : ℕ) → s p ≡ t p

-- so where the preferred selection meets such a request, the newest one is it
abbrev pub NewestIsPreferred : Type 0
NewestIsPreferred = (packages : Packages) (wanted : Wanted) (s t : Choices) → IsRegistry packages → repeats_name wanted.lock ≡ false
    → IsNewest packages wanted s → IsPreferredSelection packages wanted t → Meets packages wanted t → (p : ℕ) → s p ≡ t p
