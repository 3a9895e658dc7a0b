-- What rules versions out.
use Rattle.std.specs.Prelude.{◌≡◌, ℕ, List, Some}
use Rattle.registry.specs.Registry.{Packages}
use Rattle.registry.specs.Requests.{Wanted}
use Rattle.registry.specs.Selections.{Choices, with_root}
use Rattle.derivations.specs.Facts.{AllTrue, Terms}
use Rattle.derivations.specs.declared.known.CausedIncompatibility.{CausedIncompatibility}
use Rattle.checker.specs.Shown.{AreShown, IsShown}
use Rattle.walk.specs.Newest.{Has}

-- each of the choices that have these versions, and this one beside them, has that of the package, or of the root
abbrev pub HasWith : List (ℕ × ℕ) → ℕ → ℕ → ℕ → ℕ → Type 0
HasWith before p j on k = (t : Choices) → Has t before → t p ≡ Some j → with_root t on ≡ Some k

-- each of them makes all terms true
abbrev pub RulesOut : Terms → List (ℕ × ℕ) → ℕ → ℕ → Type 0
RulesOut terms before p j = (t : Choices) → Has t before → t p ≡ Some j → AllTrue terms (with_root t)

-- each of them makes all terms true of something that is shown, where the lines stand and the conclusions are shown
abbrev pub IsRuledOut : List CausedIncompatibility → List Terms → List (ℕ × ℕ) → ℕ → ℕ → Type 0
IsRuledOut known made before p j = (terms : Terms) × ((packages : Packages) (wanted : Wanted) → AreShown packages wanted known made → IsShown packages wanted terms) × RulesOut terms before p j
