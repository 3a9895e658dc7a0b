-- The best versions in the order of the walk, and what is left of packages.
use Rattle.std.specs.Prelude.{◌≡◌, ◌<◌, ◌++◌, ℕ, Bool, true, false, List, [], ◌∷◌, map, slice_get, Option, Some}
use Rattle.versions.specs.Words.{Text}
use Rattle.terms.specs.Sets.{has}
use Rattle.terms.specs.Terms.{true_of}
use Rattle.terms.specs.declared.term.Term.{Term}
use Rattle.registry.specs.Registry.{Packages, is_published, needs_of, number_of}
use Rattle.registry.specs.Requests.{Wanted}
use Rattle.walk.specs.Choosing.{choice_of}
use Rattle.walk.specs.Left.{term_of}
use Rattle.walk.specs.Newest.{AreBest, OfEach, dependencies_of, in_name_order}
use Rattle.walk.specs.declared.choosing.Choosing.{Choosing}
use Rattle.walk.specs.declared.choosing.Needed.{Needed}
use Rattle.walk.specs.declared.trial.Tried.{Tried}
use Rattle.walk.specs.declared.trial.Tried.TheVariants as tried

-- it is a version of this set
abbrev pub IsOf : List ℕ → Option ℕ → Type 0
IsOf set choice = (k : ℕ) × (choice ≡ Some k) × (has set k ≡ true)

-- no such selection has a version of the package that is in this set
abbrev pub HasNone : Packages → Wanted → List (ℕ × ℕ) → ℕ → List ℕ → Type 0
HasNone packages wanted found p set = (j : ℕ) → has set j ≡ true → OfEach packages wanted found (λ t. t p ≡ Some j → ⊥)

-- these are the packages that the lines name, one after the other
abbrev pub AreTargets : Packages → List (Text × Text) → List ℕ → Type 0
AreTargets packages lines asked = map (λ (line : Text × Text). number_of packages line.0) lines ≡ map Some asked

-- each of these selections has a version of the package that is left
abbrev pub AreLeft : Packages → Wanted → List (ℕ × ℕ) → List Needed → Type 0
AreLeft packages wanted found needed = (i : ℕ) (e : Needed) → slice_get needed i ≡ Some e → OfEach packages wanted found (λ t. true_of (term_of e.left) (t e.pkg) ≡ true)

-- each of these selections has a version of the package of which this is true
abbrev pub IsLeft : Packages → Wanted → List (ℕ × ℕ) → ℕ → Term → Type 0
IsLeft packages wanted found p left = OfEach packages wanted found (λ t. true_of left (t p) ≡ true)

-- each has a version of each of these packages
abbrev pub AreNeeded : Packages → Wanted → List (ℕ × ℕ) → List ℕ → Type 0
AreNeeded packages wanted found pkgs = (i q : ℕ) → slice_get pkgs i ≡ Some q → OfEach packages wanted found (λ t. (k : ℕ) × (t q ≡ Some k))

-- what is kept of packages holds of each selection that meets the request and has what is chosen
pub record Holds (packages : Packages) (wanted : Wanted) (c : Choosing) : Type 0 where
  pub left : AreLeft packages wanted c.found.entries c.needed.items
  pub fresh : AreNeeded packages wanted c.found.entries c.fresh.items

-- what is asked and what is left is added to
pub record IsGrown (old new : Choosing) : Type 0 where
  pub asked : (more : List ℕ) × (new.asked.items ≡ old.asked.items ++ more)
  pub needed : (more : List Needed) × (new.needed.items ≡ old.needed.items ++ more)

-- one thing is added: what is left of a package
pub record Pushes (left : Term) (p : ℕ) (old new : Choosing) : Type 0 where
  pub entry : Needed
  pub of : entry.pkg ≡ p
  pub is : term_of entry.left ≡ left
  pub found : new.found ≡ old.found
  pub asked : new.asked ≡ old.asked
  pub needed : new.needed.items ≡ old.needed.items ++ entry ∷ []
  pub fresh : new.fresh ≡ old.fresh

-- nothing is chosen or asked, and what holds goes on to hold, where the term is true of each selection
pub record Narrows (term : Term) (p : ℕ) (old new : Choosing) : Type 0 where
  pub found : new.found ≡ old.found
  pub asked : new.asked.items ≡ old.asked.items
  pub needed : (more : List Needed) × (new.needed.items ≡ old.needed.items ++ more)
  pub holds : (packages : Packages) (wanted : Wanted) → OfEach packages wanted old.found.entries (λ t. true_of term (t p) ≡ true) → Holds packages wanted old → Holds packages wanted new

-- each of these selections has a version of the package that depends on what this one does
abbrev pub AskAlike : Packages → Wanted → List (ℕ × ℕ) → ℕ → ℕ → Type 0
AskAlike packages wanted found p k = OfEach packages wanted found (λ t. (v : ℕ) × (t p ≡ Some v) × (needs_of packages p v ≡ needs_of packages p k))

-- nothing is chosen, and what holds goes on to hold, where each selection depends on what the version does
pub record MeetsOf (packages : Packages) (p k : ℕ) (old new : Choosing) : Type 0 where
  pub found : new.found ≡ old.found
  pub holds : (wanted : Wanted) → AskAlike packages wanted old.found.entries p k → Holds packages wanted old → Holds packages wanted new

-- the packages of these lines are asked for, where that is wanted, and else none
abbrev pub AsksOf : Packages → List (Text × Text) → Bool → List ℕ → List ℕ → Type 0
AsksOf packages lines true old new = (more : List ℕ) × (new ≡ old ++ more) × AreTargets packages lines more
AsksOf packages lines false old new = new ≡ old

-- one package is asked for, where that is wanted
abbrev pub AsksOne : ℕ → Bool → List ℕ → List ℕ → Type 0
AsksOne p true old new = new ≡ old ++ p ∷ []
AsksOne p false old new = new ≡ old

-- those of what the version depends on
abbrev pub AsksFor : Packages → ℕ → ℕ → Bool → List ℕ → List ℕ → Type 0
AsksFor packages p k asks old new = AsksOf packages (needs_of packages p k) asks old new

-- all versions of the package depend on what its first one does
abbrev pub AreAlike : Packages → ℕ → Type 0
AreAlike packages p = (k : ℕ) → is_published packages p k ≡ true → needs_of packages p k ≡ needs_of packages p 0

-- the version depends at this index on the package of this number
abbrev pub NamesAt : Packages → ℕ → ℕ → ℕ → ℕ → Type 0
NamesAt packages p k index target = (line : Text × Text) × (slice_get (needs_of packages p k) index ≡ Some line) × (number_of packages line.0 ≡ Some target)

-- the package that the version names at an index is asked for, where that is wanted
abbrev pub AsksAt : Packages → ℕ → ℕ → ℕ → Bool → List ℕ → List ℕ → Type 0
AsksAt packages p k index asks old new = (target : ℕ) × NamesAt packages p k index target × AsksOne target asks old new

-- the package of the need at an index is asked for
abbrev pub AsksNeed : Packages → List (Text × Text) → ℕ → List ℕ → List ℕ → Type 0
AsksNeed packages needs index old new = (line : Text × Text) × (target : ℕ) × (slice_get needs index ≡ Some line) × (number_of packages line.0 ≡ Some target) × (new ≡ old ++ target ∷ [])

-- the first packages that were asked for are chosen
abbrev pub ArePassed : Choosing → ℕ → Type 0
ArePassed c at = (j q : ℕ) → j < at → slice_get c.asked.items j ≡ Some q → (k : ℕ) × (choice_of c.found.entries q ≡ Some k)

-- what is asked are the lines of the walk, each version is the best, and what is kept holds
pub record IsChoosing (packages : Packages) (wanted : Wanted) (c : Choosing) : Type 0 where
  pub best : AreBest packages wanted c.found.entries
  pub targets : AreTargets packages (in_name_order wanted.needs ++ dependencies_of packages c.found.entries) c.asked.items
  pub holds : Holds packages wanted c

-- what came of a version that was tried: it is chosen; or it is ruled out, and nothing else is chosen or asked
abbrev pub ComesTo : Packages → Wanted → ℕ × ℕ → Choosing → Choosing → Tried → Type 0
ComesTo packages wanted version old new tried.Chosen = IsChoosing packages wanted new × (new.found.entries ≡ old.found.entries ++ version ∷ []) × ((more : List ℕ) × (new.asked.items ≡ old.asked.items ++ more))
ComesTo packages wanted version old new tried.RuledOut = IsChoosing packages wanted new × (new.found.entries ≡ old.found.entries) × (new.asked.items ≡ old.asked.items)
ComesTo packages wanted version old new tried.Unknown = Unit {0}
