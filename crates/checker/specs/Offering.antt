-- What a search offers to be learnt.
use Rattle.std.specs.Prelude.{ℕ, List, [], ◌∷◌, All, Contains}
use Rattle.registry.specs.Registry.{Packages}
use Rattle.registry.specs.Requests.{Wanted}
use Rattle.derivations.specs.CausedIncompatibilities.{AreLawful}
use Rattle.checker.specs.Cutting.{ShowsLine}
use Rattle.derivations.specs.Learning.{AllStand}
use Rattle.derivations.specs.Lines.{Cause, Line}
use Rattle.derivations.specs.declared.facts.Cause.TheVariants as cause
use Rattle.derivations.specs.declared.known.CausedIncompatibility.{CausedIncompatibility}

-- the lines are lawful for some registry and request
pub record AreLawfulSomewhere (known : List CausedIncompatibility) : Type 0 where
  pub packages : Packages
  pub wanted : Wanted
  pub lawful : AreLawful packages wanted known

-- what has this cause may be learnt: the cause is an earlier line or a premise
abbrev pub MayRestOn : Cause → Type 0
MayRestOn (cause.Line n) = Unit {0}
MayRestOn (cause.Premise premise) = Unit {0}
MayRestOn (cause.Need i) = ⊥
MayRestOn (cause.NotAllowed p versions) = ⊥
MayRestOn cause.Root = ⊥

-- each cause of the lines is an earlier line or a premise
abbrev pub RestOnPremises : List Line → Type 0
RestOnPremises [] = Unit {0}
RestOnPremises (line ∷ rest) = MayRestOn line.causes.0 × MayRestOn line.causes.1 × RestOnPremises rest

-- the lines show what the one at one of these places says
pub record ShowsOne (known : List CausedIncompatibility) (places : List ℕ) (lines : List Line) : Type 0 where
  pub place : ℕ
  pub asked : Contains places place
  pub shows : ShowsLine known place lines

-- each stands in every registry that the search is lawful for
abbrev pub StandWhereLawful : List CausedIncompatibility → List (List Line) → Type 0
StandWhereLawful known offered = (packages : Packages) (wanted : Wanted) → AreLawful packages wanted known → All (AllStand packages) offered
