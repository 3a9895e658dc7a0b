-- Choices that a list makes, and choices that a walk follows.
use Rattle.std.specs.Prelude.{◌≡◌, ℕ, false, List, Some, nat_eq}
use Rattle.std.specs.Map.{lookup}
use Rattle.versions.specs.Words.{Text}
use Rattle.registry.specs.Registry.{Packages, meets_at, number_of}
use Rattle.registry.specs.Selections.{Choices}

-- what a list of packages with their ordinals selects
abbrev pub choice_of : List (ℕ × ℕ) → Choices
choice_of list p = lookup (nat_eq p) list

-- each version that is selected is the one that is chosen
abbrev pub Follows : Choices → Choices → Type 0
Follows chooses s = (p k : ℕ) → s p ≡ Some k → chooses p ≡ Some k

-- no choice of the package of this name meets the requirement: it has no number, or nothing is chosen, or what does not meet it
abbrev pub IsUnmet : Packages → Choices → Text → Text → Type 0
IsUnmet packages chooses name need = (target k : ℕ) → number_of packages name ≡ Some target → chooses target ≡ Some k → meets_at packages target k need ≡ false
