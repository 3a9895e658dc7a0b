-- The preferred version as it is found, and what a walk by the preferred versions answers.
use Rattle.std.specs.Prelude.{◌≡◌, ◌<◌, ℕ, ◌&&◌, ◌||◌, Bool, false, true, not, length, Option, None, Some}
use Rattle.versions.specs.Words.{Text}
use Rattle.registry.specs.Highest.{IsHighest}
use Rattle.registry.specs.Preference.{IsPreferredSelection, admits}
use Rattle.registry.specs.Registry.{Packages, Publication, package_at, publication_at, versions_or_none}
use Rattle.registry.specs.Requests.{Wanted, locks}
use Rattle.registry.specs.Selections.{Choices, Meets}
use Rattle.walk.specs.Choosing.{choice_of}
use Rattle.walk.specs.declared.reached.Reached.{Reached}
use Rattle.walk.specs.declared.reached.Reached.TheVariants as reached

-- ---- what the lines of a request say of a version of their package

-- a publication is allowed by the lock's line and meets the need
abbrev pub is_open : Option Text → Option Text → Publication → Bool
is_open need locked publication = (not publication.yanked || locks locked publication.version) && admits need publication.version

abbrev pub is_open_at : Option Text → Option Text → Option Publication → Bool
is_open_at need locked None = false
is_open_at need locked (Some publication) = is_open need locked publication

-- a publication is named by the lock's line and meets the need
abbrev pub is_kept : Option Text → Option Text → Publication → Bool
is_kept need locked publication = locks locked publication.version && admits need publication.version

abbrev pub is_kept_at : Option Text → Option Text → Option Publication → Bool
is_kept_at need locked None = false
is_kept_at need locked (Some publication) = is_kept need locked publication

-- ---- versions by a test

-- each version of the package fails the test
abbrev pub Fails : Packages → ℕ → (Option Publication → Bool) → Type 0
Fails packages p test = (k : ℕ) → k < length (versions_or_none (package_at packages p)) → test (publication_at packages p k) ≡ false

-- no version of the package but this one meets the test
abbrev pub AloneMeets : Packages → ℕ → (Option Publication → Bool) → ℕ → Type 0
AloneMeets packages p test k = (j : ℕ) → test (publication_at packages p j) ≡ true → j ≡ k

-- the version is the highest of the package that passes the test
abbrev pub Highest : Packages → ℕ → (Option Publication → Bool) → ℕ → Type 0
Highest packages p test k = IsHighest (λ j b. test (publication_at packages p j) ≡ b) (versions_or_none (package_at packages p)) k

-- ---- answers

-- where the preferred selection serves, which is where there is one and it meets the request, this holds of it
abbrev pub IfPreferredServes : Packages → Wanted → (Choices → Type 0) → Type 0
IfPreferredServes packages wanted holds = (s : Choices) → IsPreferredSelection packages wanted s → Meets packages wanted s → holds s

-- the answer is this selection
abbrev pub Selects : Choices → Reached → Type 0
Selects s (reached.Selection list) = choice_of list.items ≡ s
Selects s (reached.Unmet asker index) = ⊥
Selects s (reached.NotAllowed p k) = ⊥

-- a selection that is answered is the preferred one
abbrev pub IsPreferredIfAny : Packages → Wanted → Reached → Type 0
IsPreferredIfAny packages wanted (reached.Selection list) = IsPreferredSelection packages wanted (choice_of list.items)
IsPreferredIfAny packages wanted (reached.Unmet asker index) = Unit {0}
IsPreferredIfAny packages wanted (reached.NotAllowed p k) = Unit {0}
