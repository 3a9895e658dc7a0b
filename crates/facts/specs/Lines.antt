-- The lines that a search keeps: facts, and what follows from lines before.
use Rattle.std.specs.Prelude.{◌≡◌, ℕ, List, [], ◌∷◌, Some, slice_get}
use Rattle.terms.specs.declared.term.Term.TheVariants.{NotIn}
use Rattle.registry.specs.Registry.{Packages}
use Rattle.registry.specs.Requests.{Wanted}
use Rattle.derivations.specs.Facts.{Terms}
use Rattle.derivations.specs.CausedIncompatibilities.{AreLawful, AreOrdered, EndsAt}
use Rattle.derivations.specs.declared.facts.Cause.TheVariants as cause
use Rattle.derivations.specs.declared.known.CausedIncompatibility.{CausedIncompatibility}
use Rattle.derivations.specs.declared.known.Reason.TheVariants.{Fact}

-- the line at this place is so
abbrev pub AtLine : List CausedIncompatibility → ℕ → (CausedIncompatibility → Type 0) → Type 0
AtLine known at P = (line : CausedIncompatibility) × (slice_get known at ≡ Some line) × P line

-- what the root's fact says
abbrev pub root_terms : Terms
root_terms = (0, NotIn (0 ∷ [])) ∷ []

-- the line of that
abbrev pub root_known : CausedIncompatibility
root_known = record { conclusion = root_terms; reason = Fact cause.Root }

-- each line that was there is there
abbrev pub Keeps : List CausedIncompatibility → List CausedIncompatibility → Type 0
Keeps old new = (k : ℕ) (line : CausedIncompatibility) → slice_get old k ≡ Some line → slice_get new k ≡ Some line

-- each line is a fact or follows from lines before it, and the first is the root's fact
pub record AreLines (packages : Packages) (wanted : Wanted) (known : List CausedIncompatibility) : Type 0 where
  pub lawful : AreLawful packages wanted known
  pub ordered : AreOrdered known
  pub root : AtLine known 0 (λ line. line.conclusion ≡ root_terms)

-- the line at this place has no terms, so that no selection meets the request
pub record IsRefusal (packages : Packages) (wanted : Wanted) (known : List CausedIncompatibility) (end : ℕ) : Type 0 where
  pub lawful : AreLawful packages wanted known
  pub ordered : AreOrdered known
  pub ends : EndsAt known end
