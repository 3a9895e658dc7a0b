-- Which version of a package may be decided.
use Rattle.std.specs.Prelude.{◌≡◌, ◌<◌, ℕ, ◌&&◌, Bool, true, false, List, Option, None, Some, IsSome, length}
use Rattle.terms.specs.Terms.{is_in, true_of}
use Rattle.terms.specs.declared.term.Term.{Term}
use Rattle.search.specs.declared.assignment.Assignment.{Assignment}
use Rattle.search.specs.Assignments.{says, is_decided}
use Rattle.registry.specs.Highest.{IsHighest}
use Rattle.registry.specs.Registry.{package_at, versions_or_none}
use Rattle.registry.specs.Requests.{is_allowed}
use Rattle.derivations.specs.Derivations.{NoneAllowed}
use Rattle.walk.specs.Newest.{IsAhead}
use Rattle.walk.specs.PlainlyNewest.{IsLocked, is_locked_at}
use Rattle.search.specs.Deciding.{IsBestLeft}
use Rattle.oracle.specs.declared.task.Task.{Task}
use Rattle.search.specs.declared.picking.Picked.{Picked}
use Rattle.search.specs.declared.picking.Picked.TheVariants as picked

-- whether the version is allowed to the request and within the term
abbrev pub is_choosable : Task → ℕ → Term → ℕ → Bool
is_choosable task pkg said k = true_of said (Some k) && is_allowed task.registry.now.packages task.request.now pkg k

-- it is the highest version that is allowed to the request and within the term
abbrev pub IsHighestChoosable : Task → ℕ → Term → ℕ → Type 0
IsHighestChoosable task pkg said = IsHighest (λ k b. is_choosable task pkg said k ≡ b) (versions_or_none (package_at task.registry.now.packages pkg))

-- no version is allowed to the request and within the term
abbrev pub NoneChoosable : Task → ℕ → Term → Type 0
NoneChoosable task pkg said = (k : ℕ) → k < length (versions_or_none (package_at task.registry.now.packages pkg)) → is_choosable task pkg said k ≡ false

-- the version is allowed and within the term
pub record IsWithin (task : Task) (pkg : ℕ) (said : Term) (k : ℕ) : Type 0 where
  pub allowed : is_allowed task.registry.now.packages task.request.now pkg k ≡ true
  pub within : true_of said (Some k) ≡ true

-- the lock names it, and it is within the term
pub record IsLockedWithin (task : Task) (pkg : ℕ) (said : Term) (k : ℕ) : Type 0 where
  pub within : IsWithin task pkg said k
  pub locked : IsLocked task.registry.now.packages task.request.now pkg k

-- what the lock names is not allowed or not within the term
abbrev pub NoneLockedWithin : Task → ℕ → Term → Type 0
NoneLockedWithin task pkg said = (j : ℕ) → is_locked_at task.registry.now.packages task.request.now pkg j ≡ true → is_choosable task pkg said j ≡ false

-- it is within the term, and each version that is preferred to it is not allowed or not within the term
pub record IsBestOf (task : Task) (pkg : ℕ) (said : Term) (k : ℕ) : Type 0 where
  pub within : IsWithin task pkg said k
  pub best : (j : ℕ) → IsAhead task.registry.now.packages task.request.now pkg j k → is_choosable task pkg said j ≡ false

-- no version within the term is allowed
abbrev pub AreBarred : Task → ℕ → Term → Type 0
AreBarred task pkg said = (k : ℕ) → true_of said (Some k) ≡ true → is_allowed task.registry.now.packages task.request.now pkg k ≡ false

-- an allowed version within what the assignments say, the best that they leave, or all that they leave, of which none is allowed
abbrev pub PicksBy : Task → List Assignment → ℕ → Picked → Type 0
PicksBy task made pkg (picked.Version k) = (is_allowed task.registry.now.packages task.request.now pkg k ≡ true) × (says made pkg (Some k) ≡ true) × IsBestLeft task.registry.now.packages task.request.now made pkg k
PicksBy task made pkg (picked.Barred versions) = ((choice : Option ℕ) → is_in versions choice ≡ says made pkg choice) × NoneAllowed task.registry.now.packages task.request.now pkg versions

-- the package is numbered and not decided, and each choice that is left selects it
pub record IsToDecide (task : Task) (made : List Assignment) (pkg : ℕ) : Type 0 where
  pub numbered : IsSome (package_at task.registry.now.packages pkg)
  pub undecided : is_decided made pkg ≡ false
  pub needed : says made pkg None ≡ false
