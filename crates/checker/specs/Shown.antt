-- What is shown of a registry and a request.
use Rattle.std.specs.Prelude.{◌≡◌, ◌||◌, ℕ, true, All, List}
use Rattle.terms.specs.Incompats.{Follows, has_term}
use Rattle.registry.specs.Registry.{Packages}
use Rattle.registry.specs.Requests.{Wanted}
use Rattle.derivations.specs.CausedIncompatibilities.{AreLawful, AreOrdered}
use Rattle.derivations.specs.Derivations.{IsFact}
use Rattle.derivations.specs.Facts.{Terms}
use Rattle.derivations.specs.Lines.{Cause}
use Rattle.derivations.specs.declared.known.CausedIncompatibility.{CausedIncompatibility}

-- the terms are a true fact, or follow from two that are shown on a pivot, on which one of the two has a term
pub data IsShown (packages : Packages) (wanted : Wanted) : Terms → Type 0 where
  fact : (c : Cause) (terms : Terms) → IsFact packages wanted c terms → IsShown packages wanted terms
  resolved : (terms one two : Terms) (pivot : ℕ) → IsShown packages wanted one → IsShown packages wanted two
      → (has_term one pivot || has_term two pivot) ≡ true → Follows terms one two pivot → IsShown packages wanted terms

-- the lines are facts or follow from lines before them, and the conclusions are shown
pub record AreShown (packages : Packages) (wanted : Wanted) (known : List CausedIncompatibility) (conclusions : List Terms) : Type 0 where
  pub lawful : AreLawful packages wanted known
  pub ordered : AreOrdered known
  pub shown : All (IsShown packages wanted) conclusions
