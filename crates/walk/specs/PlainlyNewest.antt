-- What shows without a search that a selection is the newest.
use Rattle.std.specs.Prelude.{◌≡◌, ◌⊎◌, ℕ, Bool, true, false, List, Option, None, Some}
use Rattle.std.specs.declared.cmp.Ordering.TheVariants.{Less}
use Rattle.versions.specs.Words.{precedence}
use Rattle.registry.specs.Registry.{Package, Packages, Publication, package_at, publication_at}
use Rattle.registry.specs.Requests.{Wanted, is_locked}
use Rattle.registry.specs.Selections.{Meets}
use Rattle.walk.specs.Choosing.{choice_of}
use Rattle.walk.specs.Newest.{IsAhead, IsNewest, IsOut}

-- ---- the version that the lock names

abbrev pub locks_some : Wanted → Option Package → Option Publication → Bool
locks_some wanted None publication = false
locks_some wanted (Some pack) None = false
locks_some wanted (Some pack) (Some publication) = is_locked wanted.lock pack.name publication.version

-- whether the version is published, and the lock names it
abbrev pub is_locked_at : Packages → Wanted → ℕ → ℕ → Bool
is_locked_at packages wanted p k = locks_some wanted (package_at packages p) (publication_at packages p k)

-- the lock names this version of the package and no other
pub record IsLocked (packages : Packages) (wanted : Wanted) (p k : ℕ) : Type 0 where
  pub locked : is_locked_at packages wanted p k ≡ true
  pub only : (j : ℕ) → is_locked_at packages wanted p j ≡ true → j ≡ k

-- the lock names no version of the package
abbrev pub NoneLocked : Packages → Wanted → ℕ → Type 0
NoneLocked packages wanted p = (k : ℕ) → is_locked_at packages wanted p k ≡ false

-- ---- versions that are preferred

-- where a version is preferred to another, the lock names it alone; or it has higher precedence, and the lock does not name the other alone
abbrev pub AheadIsLockedOrHigher : Type 0
AheadIsLockedOrHigher = (packages : Packages) (wanted : Wanted) (p k j : ℕ) (a : IsAhead packages wanted p j k)
    → ((is_locked_at packages wanted p j ≡ true) × (is_locked_at packages wanted p k ≡ false))
    ⊎ (((is_locked_at packages wanted p j ≡ true) ⊎ (is_locked_at packages wanted p k ≡ false)) × (precedence a.other.version a.one.version ≡ Less))

-- what is shown so is out
abbrev pub ShowsWhatIsOut : Packages → Wanted → (List (ℕ × ℕ) → ℕ → ℕ → Type 0) → Type 0
ShowsWhatIsOut packages wanted shows = (before : List (ℕ × ℕ)) (p j : ℕ) → shows before p j → IsOut packages wanted before p j

-- each version of higher precedence is out
abbrev pub AreHigherOut : Packages → Wanted → List (ℕ × ℕ) → ℕ → ℕ → Type 0
AreHigherOut packages wanted before p k = (j : ℕ) (one other : Publication) → publication_at packages p j ≡ Some one → publication_at packages p k ≡ Some other
    → precedence other.version one.version ≡ Less → IsOut packages wanted before p j

-- ---- the selection

-- what the list selects is the newest selection, if it meets the request
abbrev pub IsNewestIfMet : Packages → Wanted → List (ℕ × ℕ) → Type 0
IsNewestIfMet packages wanted list = Meets packages wanted (choice_of list) → IsNewest packages wanted (choice_of list)
