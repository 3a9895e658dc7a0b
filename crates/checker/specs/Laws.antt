-- Why what is shown can be trusted.
use Rattle.std.specs.Prelude.{◌≡◌, ℕ, List, [], Some, slice_get}
use Rattle.registry.specs.Registry.{Packages}
use Rattle.registry.specs.Requests.{Wanted}
use Rattle.registry.specs.Selections.{Choices, Meets, with_root}
use Rattle.derivations.specs.CausedIncompatibilities.{AreLawful, AreOrdered}
use Rattle.derivations.specs.Derivations.{IsRefuted}
use Rattle.derivations.specs.Facts.{AllTrue, Terms}
use Rattle.derivations.specs.declared.known.CausedIncompatibility.{CausedIncompatibility}
use Rattle.checker.specs.Shown.{IsShown}

-- where what is shown has no terms, there is a derivation, and no selection meets the request
abbrev pub ShownRefutes : Type 0
ShownRefutes = (packages : Packages) (wanted : Wanted) → IsShown packages wanted [] → IsRefuted packages wanted

-- no selection that meets the request makes all terms true of what is shown
abbrev pub ShownHolds : Type 0
ShownHolds = (packages : Packages) (wanted : Wanted) (terms : Terms) → IsShown packages wanted terms → (s : Choices) → Meets packages wanted s → AllTrue terms (with_root s) → ⊥

-- what a line of a search says is shown
abbrev pub KeptLinesAreShown : Type 0
KeptLinesAreShown = (packages : Packages) (wanted : Wanted) (known : List CausedIncompatibility) → AreLawful packages wanted known → AreOrdered known
    → (k : ℕ) (line : CausedIncompatibility) → slice_get known k ≡ Some line → IsShown packages wanted line.conclusion
