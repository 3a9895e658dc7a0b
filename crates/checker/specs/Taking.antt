-- The steps of a walk over the lines of a search, and the lines of a derivation that they make.
use Rattle.std.specs.Prelude.{◌≢◌, ◌<◌, ℕ, List, [], ◌∷◌, Option, None, Some, map, slice_get}
use Rattle.derivations.specs.Facts.{Terms}
use Rattle.derivations.specs.declared.known.CausedIncompatibility.{CausedIncompatibility}
use Rattle.derivations.specs.Lines.{Line}
use Rattle.checker.specs.declared.taking.Step.{Step}

-- what a line says, nothing where there is none
abbrev pub said_by : Option CausedIncompatibility → Terms
said_by None = []
said_by (Some line) = line.conclusion

-- what the line at a place says
abbrev pub said_at : List CausedIncompatibility → ℕ → Terms
said_at known place = said_by (slice_get known place)

-- the line that a step makes
abbrev pub line_at : List CausedIncompatibility → Step → Line
line_at known step = record { conclusion = said_at known step.place; causes = step.causes; pivot = step.pivot }

-- the lines that steps make
abbrev pub lines_at : List CausedIncompatibility → List Step → List Line
lines_at known steps = map (line_at known) steps

-- where the steps stand among the lines of the search
abbrev pub places_of : List Step → List ℕ
places_of steps = map (λ step. step.place) steps

-- no step is at the place
abbrev pub AreElsewhere : ℕ → List Step → Type 0
AreElsewhere place [] = Unit {0}
AreElsewhere place (step ∷ rest) = (step.place ≢ place) × AreElsewhere place rest

-- each step is at a place of its own among so many lines
abbrev pub ArePlaced : ℕ → List Step → Type 0
ArePlaced count [] = Unit {0}
ArePlaced count (step ∷ rest) = (step.place < count) × AreElsewhere step.place rest × ArePlaced count rest
