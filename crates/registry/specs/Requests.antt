-- Requests: what is needed, and the versions that a lock names.
use Rattle.std.specs.Prelude.{◌≡◌, ℕ, ◌&&◌, ◌||◌, Bool, false, not, List, [], ◌∷◌, length, nat_lt, Option, Some, None, Result, Ok, Err}
use Rattle.std.specs.List.{list_any}
use Rattle.std.specs.Map.{keys_of}
use Rattle.std.specs.Str.{bytes_eq}
use Rattle.versions.specs.Words.{Text, same_precedence}
use Rattle.versions.specs.declared.refusal.Refusal.{Refusal}
use Rattle.versions.specs.declared.refusal.Refusal.TheVariants as refusal
use Rattle.registry.specs.ByName.{IsByName}
use Rattle.registry.specs.Needs.{repeats_name}
use Rattle.registry.specs.Registry.{Package, Packages, Publication, package_at, publication_at}
use Rattle.registry.specs.Step.{first_that_holds}
use Rattle.registry.specs.declared.registry.TheConstants.{NEED_LIMIT}
use Rattle.registry.specs.declared.requests.TheConstants.{LOCK_LIMIT}

-- what is asked for
pub record Wanted : Type 0 where
  -- names of packages with requirements
  pub needs : List (Text × Text)
  -- names of packages with the versions to stay at
  pub lock : List (Text × Text)

-- ---- which requests there are

-- the lowest refusal of a request: no need and no lock line names a package twice, and there are at most NEED_LIMIT needs and LOCK_LIMIT lock lines
abbrev pub request_refusal : Wanted → Option Refusal
request_refusal wanted = first_that_holds (
    (repeats_name wanted.needs || repeats_name wanted.lock, refusal.RepeatedDependency)
    ∷ (nat_lt NEED_LIMIT (length wanted.needs) || nat_lt LOCK_LIMIT (length wanted.lock), refusal.TooManyDependencies)
    ∷ [])

abbrev pub unless_refused : Option Refusal → Wanted → Result Wanted Refusal
unless_refused None wanted = Ok wanted
unless_refused (Some refusal) wanted = Err refusal

-- the request of these needs and this lock, or its lowest refusal
abbrev pub request_in : List (Text × Text) → List (Text × Text) → Result Wanted Refusal
request_in needs lock = let wanted : Wanted = record { needs = needs; lock = lock } in unless_refused (request_refusal wanted) wanted

-- a request has no fault, and these are the places of its lines in the order of their names
pub record IsRequest (wanted : Wanted) (needs_by_name lock_by_name : List ℕ) : Type 0 where
  pub lawful : request_refusal wanted ≡ None
  pub needs : IsByName (keys_of wanted.needs) needs_by_name
  pub lock : IsByName (keys_of wanted.lock) lock_by_name

-- ---- which versions a request may have

-- whether the lock names this version of the package, by equal precedence
abbrev pub is_locked : List (Text × Text) → Text → Text → Bool
is_locked lock name version = list_any (λ (l : Text × Text). bytes_eq name l.0 && same_precedence l.1 version) lock

-- a lock's line of the package, if there is one, names the version
abbrev pub locks : Option Text → Text → Bool
locks None version = false
locks (Some locked) version = same_precedence locked version

-- whether a publication of the package of this name is not yanked or is named by the lock
abbrev pub allows : Wanted → Text → Publication → Bool
allows wanted name publication = not publication.yanked || is_locked wanted.lock name publication.version

abbrev pub allows_some : Wanted → Option Package → Option Publication → Bool
allows_some wanted None publication = false
allows_some wanted (Some pack) None = false
allows_some wanted (Some pack) (Some publication) = allows wanted pack.name publication

-- whether the version is published, and is not yanked or is named by the lock
unfoldable pub is_allowed : Packages → Wanted → ℕ → ℕ → Bool
is_allowed packages wanted p k = allows_some wanted (package_at packages p) (publication_at packages p k)
