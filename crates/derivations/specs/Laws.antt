-- Why derivations and what is learnt can be trusted.
use Rattle.std.specs.Prelude.{◌≡◌, ℕ, List, [], IfSome, Some, slice_get}
use Rattle.terms.specs.Incompats.{Follows}
use Rattle.registry.specs.Registry.{Packages}
use Rattle.registry.specs.Requests.{Wanted}
use Rattle.registry.specs.Selections.{Choices, Meets, with_root}
use Rattle.derivations.specs.Facts.{AllTrue, Holds, Stands, Terms, premise_terms}
use Rattle.derivations.specs.Derivations.{AreDerived, IsDerivation, IsRefuted, NoSelection, last_conclusion}
use Rattle.derivations.specs.CausedIncompatibilities.{AreLawful, AreOrdered, EndsAt}
use Rattle.derivations.specs.Learning.{AllStand, IsLearnt}
use Rattle.derivations.specs.declared.known.CausedIncompatibility.{CausedIncompatibility}
use Rattle.derivations.specs.Lines.{Line, Premise}

-- what a premise that stands says holds
abbrev pub PremisesHold : Type 0
PremisesHold = (packages : Packages) (premise : Premise) → Stands packages premise → Holds packages (premise_terms premise)

-- what follows from two incompatibilities that hold, holds
abbrev pub ResolventsHold : Type 0
ResolventsHold = (packages : Packages) (c i j : Terms) (pivot : ℕ) → Holds packages i → Holds packages j → Follows c i j pivot → Holds packages c

-- what is learnt holds where its premises stand
abbrev pub LearntHolds : Type 0
LearntHolds = (packages : Packages) (lines : List Line) (terms : Terms) → IsLearnt lines → AllStand packages lines → last_conclusion lines ≡ Some terms → Holds packages terms

-- where there is a derivation, no selection meets the request
abbrev pub DerivationsRefute : Type 0
DerivationsRefute = (packages : Packages) (wanted : Wanted) (lines : List Line) → IsDerivation packages wanted lines → NoSelection packages wanted

-- in lines that are derived from facts the one without terms is no fact, so it ends what can be cut
abbrev pub EmptyIsNoFact : Type 0
EmptyIsNoFact = (packages : Packages) (wanted : Wanted) (known : List CausedIncompatibility) (end : ℕ) (line : CausedIncompatibility) → AreLawful packages wanted known → slice_get known end ≡ Some line → line.conclusion ≡ [] → EndsAt known end

-- where lines that are facts, or follow from lines before them, have one without terms, there is a derivation, and no selection meets the request
abbrev pub KeptLinesRefute : Type 0
KeptLinesRefute = (packages : Packages) (wanted : Wanted) (known : List CausedIncompatibility) (end : ℕ) (line : CausedIncompatibility) → AreLawful packages wanted known → AreOrdered known
    → slice_get known end ≡ Some line → line.conclusion ≡ [] → IsRefuted packages wanted

-- no selection that meets the request makes all terms of a line true, where the lines are facts or follow from lines before them
abbrev pub KeptLinesHold : Type 0
KeptLinesHold = (packages : Packages) (wanted : Wanted) (known : List CausedIncompatibility) → AreLawful packages wanted known → AreOrdered known
    → (s : Choices) → Meets packages wanted s → (k : ℕ) (line : CausedIncompatibility) → slice_get known k ≡ Some line → AllTrue line.conclusion (with_root s) → ⊥

-- what the lines conclude holds of the packages
abbrev pub ConclusionHolds : Packages → List Line → Type 0
ConclusionHolds packages lines = IfSome (last_conclusion lines) (Holds packages)

-- each premise of lines that are derived from facts stands
abbrev pub DerivedLinesStand : Type 0
DerivedLinesStand = (packages : Packages) (wanted : Wanted) (lines : List Line) → AreDerived packages wanted [] lines → AllStand packages lines
