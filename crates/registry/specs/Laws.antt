-- What holds of each registry, whatever commands made it.
use Rattle.std.specs.Prelude.{◌≡◌, ◌≤◌, ◌<◌, ℕ, Bool, List, length, true, Contains, None, Some}
use Rattle.terms.specs.Sets.{has}
use Rattle.versions.specs.Words.{Text}
use Rattle.registry.specs.Highest.{IsHighest}
use Rattle.registry.specs.Lawful.{IsPublication, IsRegistry}
use Rattle.registry.specs.Preference.{IsPreferredSelection}
use Rattle.registry.specs.Registry.{Package, Packages, Publication, is_published, matching, meets_at, number_of, package_at, publication_at, versions_or_none}
use Rattle.registry.specs.Requests.{Wanted, is_allowed}
use Rattle.registry.specs.Selections.{Choices}
use Rattle.registry.specs.Step.{Change, after, refusal_of, with_listed}

-- the ordinals below the count of a package's versions are published
abbrev pub PublishedBelow : Type 0
PublishedBelow = (packages : Packages) (p k : ℕ) → k < length (versions_or_none (package_at packages p)) → is_published packages p k ≡ true

-- those from the count on are not
abbrev pub UnpublishedFrom : Type 0
UnpublishedFrom = (packages : Packages) (p k : ℕ) → length (versions_or_none (package_at packages p)) ≤ k → publication_at packages p k ≡ None

-- what is published is a version of a package that has a number
abbrev pub PublishedIsNumbered : Type 0
PublishedIsNumbered = (packages : Packages) (p k : ℕ) → is_published packages p k ≡ true → (1 ≤ p) × (p ≤ length packages)

-- the matching set has exactly the published ordinals that meet the requirement
abbrev pub MatchingIsWhatMeets : Type 0
MatchingIsWhatMeets = (packages : Packages) (p : ℕ) (need : Text) (k : ℕ) → has (matching packages p need) k ≡ meets_at packages p k need

-- the number of a package is the one of its name
abbrev pub NamesHaveTheirNumbers : Type 0
NamesHaveTheirNumbers = (packages : Packages) (p : ℕ) (pack : Package) → IsRegistry packages → package_at packages p ≡ Some pack → number_of packages pack.name ≡ Some p

-- what is published is a publication of its package, as the rules want it
abbrev pub PublicationsAreLawful : Type 0
PublicationsAreLawful = (packages : Packages) (p k : ℕ) (v : Publication) → IsRegistry packages → publication_at packages p k ≡ Some v
    → (pack : Package) × (package_at packages p ≡ Some pack) × IsPublication packages pack.name v

-- each name that a publication depends on has a number
abbrev pub NeedsAreNumbered : Type 0
NeedsAreNumbered = (packages : Packages) (p k : ℕ) (v : Publication) (d : Text × Text) → IsRegistry packages → publication_at packages p k ≡ Some v → Contains v.needs d
    → (q : ℕ) × (number_of packages d.0 ≡ Some q)

-- a package has one highest version that passes a test, at most
abbrev pub HighestIsOne : Type 0
HighestIsOne = (packages : Packages) (p : ℕ) (test : ℕ → Bool) (i j : ℕ) → IsRegistry packages → IsHighest (λ k b. test k ≡ b) (versions_or_none (package_at packages p)) i
    → IsHighest (λ k b. test k ≡ b) (versions_or_none (package_at packages p)) j → i ≡ j

-- a name keeps its number where names are added
abbrev pub NumbersLast : Type 0
NumbersLast = (packages : Packages) (added : List Text) (name : Text) (n : ℕ) → number_of packages name ≡ Some n → number_of (with_listed packages added) name ≡ Some n

-- there is one preferred selection at most
abbrev pub OnePreferredSelection : Type 0
OnePreferredSelection = (packages : Packages) (wanted : Wanted) (s t : Choices) → IsPreferredSelection packages wanted s → IsPreferredSelection packages wanted t → (p : ℕ) → s p ≡ t p

-- an accepted command leaves what holds of every registry
abbrev pub RegistriesStayLawful : Type 0
RegistriesStayLawful = (packages : Packages) (change : Change) → IsRegistry packages → refusal_of packages change ≡ None → IsRegistry (after packages change)

-- ---- requests

-- a version that is allowed to a request is published
abbrev pub AllowedIsPublished : Type 0
AllowedIsPublished = (packages : Packages) (wanted : Wanted) (p k : ℕ) → is_allowed packages wanted p k ≡ true → is_published packages p k ≡ true
