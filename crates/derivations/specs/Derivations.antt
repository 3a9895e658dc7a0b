-- Derivations: lines that follow from facts and earlier lines, and end in what no selection avoids.
use Rattle.std.specs.Prelude.{◌≡◌, ◌⊎◌, ℕ, suc, ◌||◌, true, false, List, [], ◌∷◌, ◌++◌, Option, Some, None, IsSome, slice_get}
use Rattle.versions.specs.Words.{Text}
use Rattle.terms.specs.Sets.{has}
use Rattle.terms.specs.Incompats.{Follows, IsIncompat, has_term}
use Rattle.terms.specs.declared.term.Term.TheVariants.{In, NotIn}
use Rattle.registry.specs.Registry.{Packages, package_at}
use Rattle.registry.specs.Requests.{Wanted, is_allowed}
use Rattle.registry.specs.Selections.{Choices, Meets}
use Rattle.derivations.specs.Facts.{Terms, Stands, need_terms, premise_terms}
use Rattle.derivations.specs.Lines.{Cause, Line, Premise}
use Rattle.derivations.specs.declared.facts.Cause.TheVariants as cause

-- ---- what a cause gives

-- no version of the set is allowed to the request
abbrev pub NoneAllowed : Packages → Wanted → ℕ → List ℕ → Type 0
NoneAllowed packages wanted p versions = (k : ℕ) → has versions k ≡ true → is_allowed packages wanted p k ≡ false

-- the premise stands, and says this
abbrev pub IsStanding : Packages → Premise → Terms → Type 0
IsStanding packages premise terms = Stands packages premise × (terms ≡ premise_terms premise)

-- the cause is a true fact, with this incompatibility
abbrev pub IsFact : Packages → Wanted → Cause → Terms → Type 0
IsFact packages wanted (cause.Line n) terms = ⊥
IsFact packages wanted (cause.Premise premise) terms = IsStanding packages premise terms
IsFact packages wanted (cause.Need i) terms =
    (need : Text × Text) × (slice_get wanted.needs i ≡ Some need) × (terms ≡ need_terms packages need.0 need.1)
IsFact packages wanted (cause.NotAllowed p versions) terms =
    IsSome (package_at packages p) × NoneAllowed packages wanted p versions × (terms ≡ (p, In versions) ∷ [])
IsFact packages wanted cause.Root terms = terms ≡ (0, NotIn (0 ∷ [])) ∷ []

-- the n-th of these conclusions, counted from 1
abbrev pub IsConclusion : List Terms → ℕ → Terms → Type 0
IsConclusion earlier n terms = (i : ℕ) × (n ≡ suc i) × (slice_get earlier i ≡ Some terms)

-- the cause yields this incompatibility after lines with these conclusions: it is one of them, or a fact
abbrev pub Yields : Packages → Wanted → List Terms → Cause → Terms → Type 0
Yields packages wanted earlier (cause.Line n) terms = IsConclusion earlier n terms
Yields packages wanted earlier (cause.Premise premise) terms = IsFact packages wanted (cause.Premise premise) terms
Yields packages wanted earlier (cause.Need i) terms = IsFact packages wanted (cause.Need i) terms
Yields packages wanted earlier (cause.NotAllowed p versions) terms = IsFact packages wanted (cause.NotAllowed p versions) terms
Yields packages wanted earlier cause.Root terms = IsFact packages wanted cause.Root terms

-- what was found is given, and where nothing was found nothing is
abbrev pub Finds : (Terms → Type 0) → Option Terms → Type 0
Finds gives None = (terms : Terms) → gives terms → ⊥
Finds gives (Some terms) = gives terms

-- ---- lines

-- the terms follow from the two on the pivot, on which one of the two has a term
pub record FollowsOn (one two : Terms) (line : Line) : Type 0 where
  pub on_pivot : (has_term one line.pivot || has_term two line.pivot) ≡ true
  pub follows : Follows line.conclusion one two line.pivot

-- the line's conclusion follows from what its two causes give
pub record IsDerivedBy (gives : Cause → Terms → Type 0) (line : Line) : Type 0 where
  pub one : Terms
  pub two : Terms
  pub gives_one : gives line.causes.0 one
  pub gives_two : gives line.causes.1 two
  pub follows : FollowsOn one two line

-- each line is derived by what causes give after the conclusions of the lines before it
abbrev pub AreDerivedBy : (List Terms → Cause → Terms → Type 0) → List Terms → List Line → Type 0
AreDerivedBy gives earlier [] = Unit {0}
AreDerivedBy gives earlier (line ∷ rest) = IsDerivedBy (gives earlier) line × AreDerivedBy gives (earlier ++ line.conclusion ∷ []) rest

-- each line is derived from facts and the lines before it
abbrev pub AreDerived : Packages → Wanted → List Terms → List Line → Type 0
AreDerived packages wanted earlier lines = AreDerivedBy (Yields packages wanted) earlier lines

-- what the lines say
abbrev pub conclusions : List Line → List Terms
conclusions [] = []
conclusions (line ∷ rest) = line.conclusion ∷ conclusions rest

-- each conclusion is an incompatibility
abbrev pub AreIncompats : List Line → Type 0
AreIncompats [] = Unit {0}
AreIncompats (line ∷ rest) = IsIncompat line.conclusion × AreIncompats rest

-- what the last line says
abbrev pub last_conclusion : List Line → Option Terms
last_conclusion [] = None
last_conclusion (line ∷ []) = Some line.conclusion
last_conclusion (line ∷ next ∷ rest) = last_conclusion (next ∷ rest)

-- ---- derivations

-- no terms, or only root In({0})
abbrev pub IsEnd : Terms → Type 0
IsEnd terms = (terms ≡ []) ⊎ (terms ≡ (0, In (0 ∷ [])) ∷ [])

-- a derivation that no selection meets the request: at least one line, each derived, the last an end
pub record IsDerivation (packages : Packages) (wanted : Wanted) (lines : List Line) : Type 0 where
  pub derived : AreDerived packages wanted [] lines
  pub conclusion : Terms
  pub last : last_conclusion lines ≡ Some conclusion
  pub ended : IsEnd conclusion

-- no selection meets the request
abbrev pub NoSelection : Packages → Wanted → Type 0
NoSelection packages wanted = (s : Choices) → Meets packages wanted s → ⊥

-- there is a derivation, and no selection meets the request
pub record IsRefuted (packages : Packages) (wanted : Wanted) : Type 0 where
  pub lines : List Line
  pub derivation : IsDerivation packages wanted lines
  pub none : NoSelection packages wanted
