-- Derivations that name their packages, and the same by the numbers of a registry.
use Rattle.std.specs.Prelude.{◌≡◌, ◌⊎◌, ℕ, List, [], ◌∷◌, Option, Some, None, IsSome, option_map, option_and_then}
use Rattle.versions.specs.Words.{Text}
use Rattle.terms.specs.declared.term.Term.{Term}
use Rattle.registry.specs.Registry.{Packages, number_of, package_at}
use Rattle.derivations.specs.Derivations.{AreIncompats}
use Rattle.derivations.specs.Facts.{Terms}
use Rattle.derivations.specs.Lines.{Cause, Line, Premise}
use Rattle.derivations.specs.declared.facts.Cause.TheVariants as cause
use Rattle.by_name.specs.NamedLines.{NamedCause, NamedLine, NamedPremise}

-- ---- by number

-- the number of what is named: of the request, which has no name, it is 0
abbrev pub number_in : Packages → Option Text → Option ℕ
number_in packages None = Some 0
number_in packages (Some name) = number_of packages name

abbrev pub numbered_terms : Packages → List (Option Text × Term) → Option Terms
numbered_terms packages [] = Some []
numbered_terms packages (t ∷ rest) =
    option_and_then (λ p. option_map (λ terms. (p, t.1) ∷ terms) (numbered_terms packages rest)) (number_in packages t.0)

abbrev pub numbered_premise : Packages → NamedPremise → Option Premise
numbered_premise packages premise =
    option_and_then (λ p. option_map (λ target. record {
      «package» = p;
      versions = premise.versions;
      target = target;
      need = premise.need;
      within = premise.within;
    }) (number_in packages premise.target)) (number_of packages premise.package)

abbrev pub numbered_cause : Packages → NamedCause → Option Cause
numbered_cause packages (cause.Line n) = Some (cause.Line n)
numbered_cause packages (cause.Premise premise) = option_map (λ p. cause.Premise p) (numbered_premise packages premise)
numbered_cause packages (cause.Need i) = Some (cause.Need i)
numbered_cause packages (cause.NotAllowed name versions) = option_map (λ p. cause.NotAllowed p versions) (number_of packages name)
numbered_cause packages cause.Root = Some cause.Root

-- both causes by number, if each name of them has one
abbrev pub numbered_causes : Packages → NamedCause × NamedCause → Option (Cause × Cause)
numbered_causes packages causes = option_and_then (λ one. option_map (λ two. (one, two)) (numbered_cause packages causes.1)) (numbered_cause packages causes.0)

abbrev pub numbered_line : Packages → NamedLine → Option Line
numbered_line packages line =
    option_and_then (λ terms. option_and_then (λ one. option_and_then (λ two. option_map (λ pivot. record {
      conclusion = terms;
      causes = (one, two);
      pivot = pivot;
    }) (number_in packages line.pivot)) (numbered_cause packages line.causes.1)) (numbered_cause packages line.causes.0))
    (numbered_terms packages line.conclusion)

-- the lines by number, where each name has one
abbrev pub numbered_lines : Packages → List NamedLine → Option (List Line)
numbered_lines packages [] = Some []
numbered_lines packages (line ∷ rest) =
    option_and_then (λ first. option_map (λ lines. first ∷ lines) (numbered_lines packages rest)) (numbered_line packages line)

-- the derivation that names stand for: each has a number, and each conclusion is an incompatibility
pub record IsNumbered (packages : Packages) (lines : List NamedLine) (numbered : List Line) : Type 0 where
  pub same : numbered_lines packages lines ≡ Some numbered
  pub lawful : AreIncompats numbered

-- what was found is one, and where nothing was found there is none
abbrev pub FindsOne : {X : Type 0} → (X → Type 0) → Option X → Type 0
FindsOne {X = X} is None = (x : X) → is x → ⊥
FindsOne is (Some x) = is x

-- ---- by name

-- it is the request, or a package that is numbered
abbrev pub HasName : Packages → ℕ → Type 0
HasName packages p = (p ≡ 0) ⊎ IsSome (package_at packages p)

abbrev pub HaveNames : Packages → Terms → Type 0
HaveNames packages [] = Unit {0}
HaveNames packages (t ∷ rest) = HasName packages t.0 × HaveNames packages rest

-- the packages of a premise and of what is not allowed are numbered; the target may be the request
abbrev pub CauseHasNames : Packages → Cause → Type 0
CauseHasNames packages (cause.Line n) = Unit {0}
CauseHasNames packages (cause.Premise premise) = IsSome (package_at packages premise.package) × HasName packages premise.target
CauseHasNames packages (cause.Need i) = Unit {0}
CauseHasNames packages (cause.NotAllowed p versions) = IsSome (package_at packages p)
CauseHasNames packages cause.Root = Unit {0}

pub record LineHasNames (packages : Packages) (line : Line) : Type 0 where
  pub conclusion : HaveNames packages line.conclusion
  pub one : CauseHasNames packages line.causes.0
  pub two : CauseHasNames packages line.causes.1
  pub pivot : HasName packages line.pivot

-- every package of the lines has a name
abbrev pub AllHaveNames : Packages → List Line → Type 0
AllHaveNames packages [] = Unit {0}
AllHaveNames packages (line ∷ rest) = LineHasNames packages line × AllHaveNames packages rest
