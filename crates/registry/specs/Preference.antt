-- The preferred version of a package, and the preferred selection.
use Rattle.std.specs.Prelude.{◌≡◌, ℕ, ◌&&◌, ◌||◌, Bool, true, not, List, Option, None, Some, filter, find}
use Rattle.std.specs.Option.{option_and_then, option_map, option_or}
use Rattle.std.specs.List.{enumerate_from, list_all}
use Rattle.std.specs.Ordering.{is_lt}
use Rattle.std.specs.Str.{bytes_eq}
use Rattle.versions.specs.Words.{Text, meets, precedence}
use Rattle.registry.specs.Registry.{Package, Packages, Publication, package_at}
use Rattle.registry.specs.Requests.{Wanted, allows, is_locked}
use Rattle.registry.specs.Selections.{Choices, IsReached}

-- the version meets the need on the package of this name, where there is one
abbrev pub meets_needs : List (Text × Text) → Text → Text → Bool
meets_needs needs name version = list_all (λ (n : Text × Text). not (bytes_eq name n.0) || meets n.1 version) needs

-- the version meets the need, if there is one
abbrev pub admits : Option Text → Text → Bool
admits None version = true
admits (Some need) version = meets need version

-- whether a publication is allowed to the request and meets its need on the package
abbrev pub is_candidate : Wanted → Text → Publication → Bool
is_candidate wanted name publication = allows wanted name publication && meets_needs wanted.needs name publication.version

-- the candidates of a package, with their ordinals
abbrev pub candidates : Wanted → Package → List (ℕ × Publication)
candidates wanted pack = filter (λ (c : ℕ × Publication). is_candidate wanted pack.name c.1) (enumerate_from 0 pack.versions)

-- the candidate that the lock names
abbrev pub locked_candidate : Wanted → Package → Option (ℕ × Publication)
locked_candidate wanted pack = find (λ (c : ℕ × Publication). is_locked wanted.lock pack.name c.1.version) (candidates wanted pack)

-- the candidate than which none has higher precedence
abbrev pub highest_candidate : Wanted → Package → Option (ℕ × Publication)
highest_candidate wanted pack =
    find (λ (c : ℕ × Publication). list_all (λ (other : ℕ × Publication). not (is_lt (precedence c.1.version other.1.version))) (candidates wanted pack)) (candidates wanted pack)

-- the ordinal of the candidate that the lock names, else of the highest
abbrev pub preferred_in : Wanted → Package → Option ℕ
preferred_in wanted pack = option_map (λ (c : ℕ × Publication). c.0) (option_or (locked_candidate wanted pack) (highest_candidate wanted pack))

-- the preferred version of a package
unfoldable pub preferred : Packages → Wanted → ℕ → Option ℕ
preferred packages wanted p = option_and_then (preferred_in wanted) (package_at packages p)

-- the package is reached from the needs along dependencies of preferred versions
abbrev pub IsPreferredReach : Packages → Wanted → ℕ → Type 0
IsPreferredReach packages wanted p = IsReached packages wanted.needs (preferred packages wanted) p

-- each reached package has its preferred version, and no other package is selected
pub record IsPreferredSelection (packages : Packages) (wanted : Wanted) (s : Choices) : Type 0 where
  pub reached : (p : ℕ) → IsPreferredReach packages wanted p → (k : ℕ) × (preferred packages wanted p ≡ Some k) × (s p ≡ Some k)
  pub others : (p k : ℕ) → s p ≡ Some k → IsPreferredReach packages wanted p
