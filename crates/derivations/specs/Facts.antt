-- What holds of a registry, and the premises that stand in it.
use Rattle.std.specs.Prelude.{◌≡◌, ◌≢◌, ℕ, true, List, [], ◌∷◌, Option, Some, None, Contains}
use Rattle.versions.specs.Words.{Text}
use Rattle.terms.specs.Sets.{has}
use Rattle.terms.specs.Incompats.{pair_of, true_at}
use Rattle.terms.specs.declared.term.Term.{Term}
use Rattle.terms.specs.declared.term.Term.TheVariants.{In, NotIn}
use Rattle.registry.specs.Registry.{Packages, matching, meets_at, needs_of, number_of}
use Rattle.registry.specs.Selections.{Choices, IsClosed, IsSelection, with_root}
use Rattle.derivations.specs.Lines.{Premise}

-- the terms of an incompatibility, by package
abbrev pub Terms : Type 0
Terms = List (ℕ × Term)

-- the choices make each term true
abbrev pub AllTrue : Terms → Choices → Type 0
AllTrue terms s = (p : ℕ) → true_at terms p (s p) ≡ true

-- no closed selection, with the root's choice, makes all terms true
abbrev pub Holds : Packages → Terms → Type 0
Holds packages terms = (s : Choices) → IsSelection packages s → IsClosed packages s → AllTrue terms (with_root s) → ⊥

-- ---- premises

-- one of these needs is on the target, with this requirement
abbrev pub HasNeed : Packages → List (Text × Text) → ℕ → Text → Type 0
HasNeed packages needs target need = (name : Text) × (number_of packages name ≡ Some target) × Contains needs (name, need)

-- the version depends on the target with this requirement
abbrev pub DependsOn : Packages → ℕ → ℕ → ℕ → Text → Type 0
DependsOn packages p k target need = HasNeed packages (needs_of packages p k) target need

-- each of the premise's versions depends on the target
abbrev pub AllDepend : Packages → Premise → Type 0
AllDepend packages premise = (k : ℕ) → has premise.versions k ≡ true → DependsOn packages premise.package k premise.target premise.need

-- the premise has versions, and each depends on the target, which is another package
pub record IsDependent (packages : Packages) (premise : Premise) : Type 0 where
  pub different : premise.package ≢ premise.target
  pub some : premise.versions ≢ []
  pub each : AllDepend packages premise

-- each version of the target that meets the requirement is within the set
abbrev pub Covers : Packages → Premise → Type 0
Covers packages premise = (k : ℕ) → meets_at packages premise.target k premise.need ≡ true → has premise.within k ≡ true

-- the versions depend on the target, and all of it that meets the requirement is within the set
pub record Stands (packages : Packages) (premise : Premise) : Type 0 where
  pub depends : IsDependent packages premise
  pub covers : Covers packages premise

-- ---- what premises and needs say

-- p In(versions), target NotIn(within); without the term on the target where `within` is empty
abbrev pub dependency : ℕ → List ℕ → ℕ → List ℕ → Terms
dependency p versions target within = pair_of p (In versions) target (NotIn within)

abbrev pub premise_terms : Premise → Terms
premise_terms premise = dependency premise.package premise.versions premise.target premise.within

-- the terms are what the premise says; one on its own package says nothing
abbrev pub Says : Premise → Terms → Type 0
Says premise terms = (premise.package ≢ premise.target) × (terms ≡ premise_terms premise)

-- root In({0}), target NotIn(what meets the need); only the first where the name has no number
abbrev pub need_terms_at : Packages → Option ℕ → Text → Terms
need_terms_at packages None need = (0, In (0 ∷ [])) ∷ []
need_terms_at packages (Some q) need = dependency 0 (0 ∷ []) q (matching packages q need)

-- what a need of the request says
abbrev pub need_terms : Packages → Text → Text → Terms
need_terms packages name need = need_terms_at packages (number_of packages name) need
