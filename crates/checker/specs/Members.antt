-- What is taken from the store, as lines.
use Rattle.std.specs.Prelude.{◌≡◌, ℕ, List, [], ◌∷◌, Some, length, slice_get}
use Rattle.std.proofs.Common.{get_or}
use Rattle.registry.specs.Registry.{Packages}
use Rattle.derivations.specs.Facts.{Terms}
use Rattle.derivations.specs.Derivations.{IsDerivedBy, last_conclusion}
use Rattle.derivations.specs.Learning.{CauseStands, Offers}
use Rattle.derivations.specs.Lines.{Cause, Line}
use Rattle.derivations.specs.declared.known.CausedIncompatibility.{CausedIncompatibility}
use Rattle.facts.specs.Pushing.{SaysAt}

-- what these say, one after the other, stands at these places
pub record AreAt (known : List CausedIncompatibility) (said : List Terms) (places : List ℕ) : Type 0 where
  pub lengths : length places ≡ length said
  pub each : (i : ℕ) (terms : Terms) → slice_get said i ≡ Some terms → SaysAt known terms (get_or places i 0)

-- the cause gives this, with earlier conclusions that stand at these places
pub record IsGivenAt (known : List CausedIncompatibility) (places : List ℕ) (c : Cause) (terms : Terms) : Type 0 where
  pub earlier : List Terms
  pub said : AreAt known earlier places
  pub offers : Offers earlier c terms

-- the line is derived from premises that stand and from earlier conclusions, which stand at these places
pub record IsDerivedAt (packages : Packages) (known : List CausedIncompatibility) (places : List ℕ) (line : Line) : Type 0 where
  pub earlier : List Terms
  pub said : AreAt known earlier places
  pub derived : IsDerivedBy (Offers earlier) line
  pub first : CauseStands packages line.causes.0
  pub second : CauseStands packages line.causes.1

-- the place of what a member's last line says
abbrev pub IsForMember : List CausedIncompatibility → List Line → ℕ → Type 0
IsForMember known lines at = (terms : Terms) → last_conclusion lines ≡ Some terms → SaysAt known terms at

-- what is left of the lines ends as they do, and where nothing is left that is said at a place
abbrev pub EndsSo : List CausedIncompatibility → ℕ → List Line → List Line → Type 0
EndsSo known at lines [] = IsForMember known lines at
EndsSo known at lines (line ∷ rest) = last_conclusion (line ∷ rest) ≡ last_conclusion lines
