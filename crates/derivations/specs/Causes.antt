-- What the causes of a line give.
use Rattle.std.specs.Prelude.{◌≡◌, ◌≢◌, ℕ, List, Option, Some, slice_get}
use Rattle.registry.specs.Registry.{Packages}
use Rattle.registry.specs.Requests.{Wanted}
use Rattle.derivations.specs.Derivations.{IsFact}
use Rattle.derivations.specs.Facts.{Terms}
use Rattle.derivations.specs.declared.causes.Given.{Given}
use Rattle.derivations.specs.declared.causes.Given.TheVariants.{Kept, Made}
use Rattle.derivations.specs.declared.facts.Cause.TheVariants.{Need}

-- the incompatibility that is given
abbrev pub given_terms : Given → Terms
given_terms (Kept incompat) = incompat.now
given_terms (Made incompat) = incompat

-- what is kept in a place is what the request's need there says
abbrev pub AreNeedFacts : Packages → Wanted → List (Option Terms) → Type 0
AreNeedFacts packages wanted kept = (i : ℕ) (terms : Terms) → slice_get kept i ≡ Some (Some terms) → IsFact packages wanted (Need i) terms

-- nothing is kept in any place
abbrev pub HasNoFacts : List (Option Terms) → Type 0
HasNoFacts kept = (i : ℕ) (terms : Terms) → slice_get kept i ≢ Some (Some terms)
