-- What a command does: the packages after it, or the lowest refusal that applies.
use Rattle.std.specs.Prelude.{Bool, true, false, List, [], ◌∷◌, ◌++◌, length, nat_le, nat_lt, Option, Some, None, Result, Ok, Err, if◌then◌else◌}
use Rattle.versions.specs.Words.{Text, same_precedence}
use Rattle.versions.specs.declared.refusal.Refusal.{Refusal}
use Rattle.versions.specs.declared.refusal.Refusal.TheVariants as refusal
use Rattle.registry.specs.Needs.{has_name, names_of, repeats_name}
use Rattle.registry.specs.Registry.{Packages, Publication, has_version, is_known, is_named, versions_of}
use Rattle.registry.specs.declared.registry.TheConstants.{NEED_LIMIT, PACKAGE_LIMIT, VERSION_LIMIT}

-- a command, by its texts
pub data Change : Type 0 where
  Publish : (name version : Text) → (needs : List (Text × Text)) → Change
  Yank : (name version : Text) → Change
  Unyank : (name version : Text) → Change

-- ---- refusals

-- the first of these refusals whose test holds
abbrev pub first_that_holds : List (Bool × Refusal) → Option Refusal
first_that_holds [] = None
first_that_holds (t ∷ rest) = if t.0 then Some t.1 else first_that_holds rest

-- the packages with this name among them, as the last where it is new
abbrev pub with_name : Packages → Text → Packages
with_name packages name = if is_known packages name then packages else packages ++ (record { name = name; versions = [] }) ∷ []

abbrev pub with_listed : Packages → List Text → Packages
with_listed packages [] = packages
with_listed packages (name ∷ rest) = with_listed (with_name packages name) rest

-- the packages with this name and those of these needs among them
abbrev pub with_named : Packages → Text → List (Text × Text) → Packages
with_named packages name needs = with_listed (with_name packages name) (names_of needs)

-- at most NEED_LIMIT dependencies, VERSION_LIMIT versions a package and PACKAGE_LIMIT names
abbrev pub publish_refusal : Packages → Text → Text → List (Text × Text) → Option Refusal
publish_refusal packages name version needs = first_that_holds (
    (repeats_name needs, refusal.RepeatedDependency)
    ∷ (has_name needs name, refusal.SelfDependency)
    ∷ (nat_lt NEED_LIMIT (length needs), refusal.TooManyDependencies)
    ∷ (has_version (versions_of packages name) version, refusal.AlreadyPublished)
    ∷ (nat_le VERSION_LIMIT (length (versions_of packages name)), refusal.TooManyVersions)
    ∷ (nat_lt PACKAGE_LIMIT (length (with_named packages name needs)), refusal.TooManyPackages)
    ∷ [])

-- whether the publication of equal precedence is yanked, if there is one
abbrev pub yank_of : List Publication → Text → Option Bool
yank_of [] version = None
yank_of (v ∷ rest) version = if same_precedence version v.version then Some v.yanked else yank_of rest version

-- a version can be yanked that is published and not yanked
abbrev pub yank_refusal : Option Bool → Option Refusal
yank_refusal None = Some refusal.NoSuchVersion
yank_refusal (Some true) = Some refusal.AlreadyYanked
yank_refusal (Some false) = None

-- the yank of a version can be undone that is published and yanked
abbrev pub unyank_refusal : Option Bool → Option Refusal
unyank_refusal None = Some refusal.NoSuchVersion
unyank_refusal (Some true) = None
unyank_refusal (Some false) = Some refusal.NotYanked

-- the lowest refusal that applies to a command
unfoldable pub refusal_of : Packages → Change → Option Refusal
refusal_of packages (Publish name version needs) = publish_refusal packages name version needs
refusal_of packages (Yank name version) = yank_refusal (yank_of (versions_of packages name) version)
refusal_of packages (Unyank name version) = unyank_refusal (yank_of (versions_of packages name) version)

-- ---- the packages after a command

-- the packages, with a change of the publications of the package of this name
abbrev pub with_versions : Text → (List Publication → List Publication) → Packages → Packages
with_versions name change [] = []
with_versions name change (p ∷ rest) =
    if is_named name p then (record { name = p.name; versions = change p.versions }) ∷ rest
    else p ∷ with_versions name change rest

-- the packages after an accepted publication: names that are new are numbered, the package's first
abbrev pub publish : Packages → Text → Text → List (Text × Text) → Packages
publish packages name version needs =
    with_versions name (λ versions. versions ++ (record { version = version; needs = needs; yanked = false }) ∷ []) (with_named packages name needs)

-- the publications, with the one of equal precedence yanked or not
abbrev pub set_yanked : Text → Bool → List Publication → List Publication
set_yanked version yanked [] = []
set_yanked version yanked (v ∷ rest) =
    if same_precedence version v.version then (record { version = v.version; needs = v.needs; yanked = yanked }) ∷ rest
    else v ∷ set_yanked version yanked rest

-- the packages, with the version of equal precedence of the package of this name yanked or not
abbrev pub with_yanked : Text → Text → Bool → Packages → Packages
with_yanked name version yanked packages = with_versions name (set_yanked version yanked) packages

-- the packages after an accepted command
unfoldable pub after : Packages → Change → Packages
after packages (Publish name version needs) = publish packages name version needs
after packages (Yank name version) = with_versions name (set_yanked version true) packages
after packages (Unyank name version) = with_versions name (set_yanked version false) packages

-- ---- the step

abbrev pub step_of : Option Refusal → Packages → Result Packages Refusal
step_of None packages = Ok packages
step_of (Some refusal) packages = Err refusal

-- the packages after a command, or the lowest refusal that applies
abbrev pub step : Packages → Change → Result Packages Refusal
step packages change = step_of (refusal_of packages change) (after packages change)
