-- How assignments stand to an incompatibility, and which of them satisfies it (doc/solver.md, "Incompatibility" and "Conflict Resolution").
use Rattle.std.specs.Prelude.{◌≡◌, ◌≤◌, ◌<◌, ◌+◌, ◌↔◌, ℕ, max, true, false, List, [], ◌∷◌, ◌++◌, take, length, slice_get, Option, Some}
use Rattle.terms.specs.Terms.{true_of, IsChoice}
use Rattle.terms.specs.Incompats.{true_at}
use Rattle.terms.specs.declared.term.Term.{Term}
use Rattle.search.specs.declared.assignment.Assignment.{Assignment}
use Rattle.search.specs.declared.satisfaction.Satisfaction.{Satisfaction}
use Rattle.search.specs.declared.satisfaction.Satisfaction.TheVariants as standing
use Rattle.search.specs.Assignments.{says, decisions, upto, LeavesChoices}

-- each term must be true: what the assignments say of its package leaves no other choice
abbrev pub Satisfied : List Assignment → List (ℕ × Term) → Type 0
Satisfied made terms = (pkg : ℕ) (choice : Option ℕ) → says made pkg choice ≡ true → true_at terms pkg choice ≡ true

-- each term must be true, but for the one on the package `out`
abbrev pub SatisfiedBut : List Assignment → List (ℕ × Term) → ℕ → Type 0
SatisfiedBut made terms out = (pkg : ℕ) (choice : Option ℕ) → (pkg ≡ out → ⊥) → says made pkg choice ≡ true → true_at terms pkg choice ≡ true

-- all terms but one must be true, and that one can be true or false
pub record AlmostSatisfied (made : List Assignment) (terms : List (ℕ × Term)) (out : ℕ) : Type 0 where
  pub others : SatisfiedBut made terms out
  pub can_be_false : (choice : Option ℕ) × IsChoice choice × (says made out choice ≡ true) × (true_at terms out choice ≡ false)
  pub can_be_true : (choice : Option ℕ) × IsChoice choice × (says made out choice ≡ true) × (true_at terms out choice ≡ true)

-- some term can be false; and whichever one is left out, another can be false or that one must be
pub record IsNeither (made : List Assignment) (terms : List (ℕ × Term)) : Type 0 where
  pub pkg : ℕ
  pub choice : Option ℕ
  pub said : says made pkg choice ≡ true
  pub false_there : true_at terms pkg choice ≡ false
  pub not_almost : (out : ℕ) → SatisfiedBut made terms out → (choice : Option ℕ) → says made out choice ≡ true → true_at terms out choice ≡ true → ⊥

-- how terms stand to assignments
abbrev pub Stands : List Assignment → List (ℕ × Term) → Satisfaction → Type 0
Stands made terms standing.Satisfied = Satisfied made terms
Stands made terms (standing.Almost out) = AlmostSatisfied made terms out
Stands made terms standing.Other = IsNeither made terms

-- terms stand to assignments in one way
abbrev pub OneStanding : Type 0
OneStanding = (made : List Assignment) (terms : List (ℕ × Term)) (first second : Satisfaction) → Stands made terms first → Stands made terms second → first ≡ second

-- ---- the satisfier

-- `count` assignments from the first on are the shortest beginning that satisfies the terms together with `more`
pub record IsShortest (made more : List Assignment) (terms : List (ℕ × Term)) (count : ℕ) : Type 0 where
  pub within : count ≤ length made
  pub satisfied : Satisfied (take count made ++ more) terms
  pub least : (k : ℕ) → k < count → Satisfied (take k made ++ more) terms → ⊥

-- the satisfier stands at `index`, and `level` is the previous level: that of the shortest beginning before the satisfier which satisfies the terms together with it, and at least 1
pub record IsSatisfier (made : List Assignment) (terms : List (ℕ × Term)) (index level : ℕ) : Type 0 where
  pub satisfier : Assignment
  pub at : slice_get made index ≡ Some satisfier
  pub shortest : IsShortest made [] terms (index + 1)
  pub count : ℕ
  pub previous : IsShortest (take index made) (satisfier ∷ []) terms count
  pub level_is : level ≡ max (decisions (take count made)) 1

-- the assignments of the level or lower leave the terms almost satisfied: not all must be true, all but one must, and that one can be
pub record LeavesAlmost (made : List Assignment) (terms : List (ℕ × Term)) (level : ℕ) : Type 0 where
  pub opened : level ≤ decisions made
  pub above_root : 1 ≤ level
  pub not_yet : Satisfied (upto level made) terms → ⊥
  pub out : ℕ
  pub others : SatisfiedBut (upto level made) terms out
  pub choice : Option ℕ
  pub said : says (upto level made) out choice ≡ true
  pub true_there : true_at terms out choice ≡ true

-- going back from the satisfier to the previous level, or to one above it, that is below its own leaves the terms almost satisfied
abbrev pub CanGoBack : List Assignment → List (ℕ × Term) → ℕ → ℕ → Type 0
CanGoBack made terms index level = (satisfier : Assignment) → slice_get made index ≡ Some satisfier → (lower : ℕ) → level ≤ lower → lower < satisfier.level → LeavesAlmost made terms lower

-- ---- by the choices of all packages

-- the choices make each assignment true
abbrev pub MakesTrue : (ℕ → Option ℕ) → List Assignment → Type 0
MakesTrue choices [] = Unit {0}
MakesTrue choices (a ∷ rest) = (true_of a.term (choices a.pkg) ≡ true) × MakesTrue choices rest

-- every choice of all packages that makes the assignments true makes every term true
abbrev pub SatisfiedByAll : List Assignment → List (ℕ × Term) → Type 0
SatisfiedByAll made terms = (choices : ℕ → Option ℕ) → MakesTrue choices made → (pkg : ℕ) → true_at terms pkg (choices pkg) ≡ true

-- where the assignments leave choices, to satisfy terms package by package is to satisfy them by the choices of all packages
abbrev pub PackageByPackage : Type 0
PackageByPackage = (made : List Assignment) (terms : List (ℕ × Term)) → LeavesChoices made → Satisfied made terms ↔ SatisfiedByAll made terms

-- the beginnings that are tried leave choices: those of the assignments, alone and with one that comes later
abbrev pub BeginningsLeaveChoices : Type 0
BeginningsLeaveChoices = (made : List Assignment) → LeavesChoices made → (k : ℕ) →
    LeavesChoices (take k made) × ((i : ℕ) (a : Assignment) → k ≤ i → slice_get made i ≡ Some a → LeavesChoices (take k made ++ a ∷ []))
