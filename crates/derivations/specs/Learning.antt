-- What may be learnt: lines that rest on premises alone.
use Rattle.std.specs.Prelude.{◌≡◌, ◌≢◌, ◌<◌, ◌≤◌, ℕ, List, [], ◌∷◌, ◌++◌, length}
use Rattle.registry.specs.Registry.{Packages}
use Rattle.derivations.specs.Facts.{Terms, Stands, premise_terms}
use Rattle.derivations.specs.Derivations.{AreDerivedBy, IsConclusion}
use Rattle.derivations.specs.Lines.{Cause, Line}
use Rattle.derivations.specs.declared.facts.Cause.TheVariants as cause
use Rattle.derivations.specs.declared.learnt.TheConstants.{DERIVATION_LINE_LIMIT}

-- the cause gives this incompatibility whatever the registry holds: an earlier line, or a premise with versions whose package is not its target
abbrev pub Offers : List Terms → Cause → Terms → Type 0
Offers earlier (cause.Line n) terms = IsConclusion earlier n terms
Offers earlier (cause.Premise premise) terms = (premise.package ≢ premise.target) × (premise.versions ≢ []) × (terms ≡ premise_terms premise)
Offers earlier (cause.Need i) terms = ⊥
Offers earlier (cause.NotAllowed p versions) terms = ⊥
Offers earlier cause.Root terms = ⊥

-- one to LINE_LIMIT lines, derived from premises and earlier lines
pub record IsLearnt (lines : List Line) : Type 0 where
  pub some : 0 < length lines
  pub few : length lines ≤ DERIVATION_LINE_LIMIT
  pub derived : AreDerivedBy Offers [] lines

-- the premise stands, where the cause is one
abbrev pub CauseStands : Packages → Cause → Type 0
CauseStands packages (cause.Line n) = Unit {0}
CauseStands packages (cause.Premise premise) = Stands packages premise
CauseStands packages (cause.Need i) = Unit {0}
CauseStands packages (cause.NotAllowed p versions) = Unit {0}
CauseStands packages cause.Root = Unit {0}

-- each premise of the lines stands
abbrev pub AllStand : Packages → List Line → Type 0
AllStand packages [] = Unit {0}
AllStand packages (line ∷ rest) = CauseStands packages line.causes.0 × CauseStands packages line.causes.1 × AllStand packages rest

-- the premise's target, where the cause is one
abbrev pub target_of : Cause → List ℕ
target_of (cause.Line n) = []
target_of (cause.Premise premise) = premise.target ∷ []
target_of (cause.Need i) = []
target_of (cause.NotAllowed p versions) = []
target_of cause.Root = []

-- the targets of the lines' premises
abbrev pub targets_of : List Line → List ℕ
targets_of [] = []
targets_of (line ∷ rest) = (target_of line.causes.0 ++ target_of line.causes.1) ++ targets_of rest
