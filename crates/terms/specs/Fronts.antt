-- Two lists of terms that are read side by side.
use Rattle.std.specs.Prelude.{◌≡◌, ℕ, Bool, true, List, [], ◌∷◌, Option, None, Some, nat_eq, min, if◌then◌else◌}
use Rattle.terms.specs.Incompats.{joined}
use Rattle.terms.specs.Terms.{true_of}
use Rattle.terms.specs.declared.term.Term.{Term}

-- the least package of both lists
abbrev pub least_package : List (ℕ × Term) → List (ℕ × Term) → ℕ
least_package [] [] = 0
least_package [] (b ∷ others) = b.0
least_package (a ∷ rest) [] = a.0
least_package (a ∷ rest) (b ∷ others) = min a.0 b.0

-- the first term, where it is on this package
abbrev pub front_term : List (ℕ × Term) → ℕ → Option Term
front_term [] pkg = None
front_term (t ∷ rest) pkg = if nat_eq t.0 pkg then Some t.1 else None

-- the terms behind the first, where it is on this package
abbrev pub behind_package : List (ℕ × Term) → ℕ → List (ℕ × Term)
behind_package [] pkg = []
behind_package (t ∷ rest) pkg = if nat_eq t.0 pkg then rest else t ∷ rest

-- a term that is not there is true of every choice
abbrev pub true_where : Option Term → Option ℕ → Bool
true_where None choice = true
true_where (Some term) choice = true_of term choice

-- the term is true exactly where the two terms are, joined as on the pivot or as elsewhere
abbrev pub IsJoined : Bool → Option Term → Option Term → Option Term → Type 0
IsJoined is_pivot first second term = (choice : Option ℕ) → true_where term choice ≡ joined is_pivot (true_where first choice) (true_where second choice)
