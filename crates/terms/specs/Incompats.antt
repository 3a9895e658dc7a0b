-- What incompatibilities say: terms by package.
use Rattle.std.specs.Prelude.{◌≡◌, ◌≤◌, ℕ, suc, ◌||◌, ◌&&◌, Bool, true, false, List, [], ◌∷◌, ◌++◌, Option, None, Some, nat_eq, nat_lt, is_some, if◌then◌else◌}
use Rattle.terms.specs.Terms.{true_of, CanBeFalse, IsTerm}
use Rattle.terms.specs.declared.term.Term.{Term}
use Rattle.terms.specs.declared.term.Term.TheVariants.{In, NotIn}

-- the term on a package, where there is one
abbrev pub term_on : List (ℕ × Term) → ℕ → Option Term
term_on [] pkg = None
term_on (t ∷ rest) pkg = if nat_eq t.0 pkg then Some t.1 else term_on rest pkg

-- whether there is a term on a package
abbrev pub has_term : List (ℕ × Term) → ℕ → Bool
has_term terms pkg = is_some (term_on terms pkg)

-- whether the term on a package is true of a choice; a term that is not there is true of every choice
abbrev pub true_at : List (ℕ × Term) → ℕ → Option ℕ → Bool
true_at [] pkg choice = true
true_at (t ∷ rest) pkg choice = if nat_eq t.0 pkg then true_of t.1 choice else true_at rest pkg choice

-- at most one term a package, in order of packages from low on, and no term that always holds
abbrev pub OrderedFrom : ℕ → List (ℕ × Term) → Type 0
OrderedFrom low [] = Unit {0}
OrderedFrom low (t ∷ rest) = (low ≤ t.0) × CanBeFalse t.1 × OrderedFrom (suc t.0) rest

-- the terms are an incompatibility
abbrev pub IsIncompat : List (ℕ × Term) → Type 0
IsIncompat = OrderedFrom 0

-- each term's set ascends
abbrev pub AreTerms : List (ℕ × Term) → Type 0
AreTerms [] = Unit {0}
AreTerms (t ∷ rest) = IsTerm t.1 × AreTerms rest

-- how the truth of two terms is joined: on the pivot one of the two, elsewhere both
abbrev pub joined : Bool → Bool → Bool → Bool
joined true a b = a || b
joined false a b = a && b

-- c follows from i and j: on the pivot it is true exactly where i or j is, and on each other package exactly where both are
abbrev pub Follows : List (ℕ × Term) → List (ℕ × Term) → List (ℕ × Term) → ℕ → Type 0
Follows c i j pivot = (pkg : ℕ) (choice : Option ℕ) →
    true_at c pkg choice ≡ joined (nat_eq pkg pivot) (true_at i pkg choice) (true_at j pkg choice)

-- no other incompatibility follows from the two
abbrev pub IsOnlyResolvent : List (ℕ × Term) → List (ℕ × Term) → ℕ → List (ℕ × Term) → Type 0
IsOnlyResolvent i j pivot c = (other : List (ℕ × Term)) → IsIncompat other → AreTerms other → Follows other i j pivot → other ≡ c

-- incompatibilities that say the same of all choices are equal
abbrev pub SameIncompat : Type 0
SameIncompat = (first second : List (ℕ × Term)) → IsIncompat first → IsIncompat second → AreTerms first → AreTerms second →
    ((pkg : ℕ) (choice : Option ℕ) → true_at first pkg choice ≡ true_at second pkg choice) → first ≡ second

-- what follows from two incompatibilities on a pivot is one incompatibility
abbrev pub SameResolvent : Type 0
SameResolvent = (c d i j : List (ℕ × Term)) (pivot : ℕ) → IsIncompat c → IsIncompat d → AreTerms c → AreTerms d →
    Follows c i j pivot → Follows d i j pivot → c ≡ d

-- a term on a package, left out where it always holds
abbrev pub unless_always : ℕ → Term → List (ℕ × Term)
unless_always pkg (In set) = (pkg, In set) ∷ []
unless_always pkg (NotIn []) = []
unless_always pkg (NotIn (k ∷ rest)) = (pkg, NotIn (k ∷ rest)) ∷ []

-- terms on two packages, in order and without those that always hold
abbrev pub pair_of : ℕ → Term → ℕ → Term → List (ℕ × Term)
pair_of pkg term other_pkg other =
    if nat_lt pkg other_pkg then unless_always pkg term ++ unless_always other_pkg other else unless_always other_pkg other ++ unless_always pkg term
