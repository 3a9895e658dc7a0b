-- What terms say of choices. A choice of a package is one ordinal or none.
use Rattle.std.specs.Prelude.{◌≡◌, ◌<◌, ◌^◌, ℕ, Bool, true, false, not, List, Option, None, Some}
use Rattle.terms.specs.Sets.{has, IsAscending}
use Rattle.terms.specs.declared.relations.Relation.{Relation}
use Rattle.terms.specs.declared.relations.Relation.TheVariants.{Contradicts, Inconclusive, Satisfies}
use Rattle.terms.specs.declared.term.Term.{Term}
use Rattle.terms.specs.declared.term.Term.TheVariants.{In, NotIn}

-- whether the choice is an ordinal of the set
abbrev pub is_in : List ℕ → Option ℕ → Bool
is_in set None = false
is_in set (Some k) = has set k

-- whether a term is true of a choice
abbrev pub true_of : Term → Option ℕ → Bool
true_of (In set) choice = is_in set choice
true_of (NotIn set) choice = not (is_in set choice)

-- the second term must be true of each choice of which the first is
abbrev pub Implies : Term → Term → Type 0
Implies first second = (choice : Option ℕ) → true_of first choice ≡ true → true_of second choice ≡ true

-- the second term must be false of each choice of which the first is true
abbrev pub Excludes : Term → Term → Type 0
Excludes first second = (choice : Option ℕ) → true_of first choice ≡ true → true_of second choice ≡ false

-- none, or an ordinal, which has 32 bits
abbrev pub IsChoice : Option ℕ → Type 0
IsChoice None = Unit {0}
IsChoice (Some k) = k < 2 ^ 32

-- a choice that makes the first term true and the second false
pub record Exception (first second : Term) : Type 0 where
  pub choice : Option ℕ
  pub is_choice : IsChoice choice
  pub first_true : true_of first choice ≡ true
  pub second_false : true_of second choice ≡ false

-- a choice that makes both terms true
pub record Shared (first second : Term) : Type 0 where
  pub choice : Option ℕ
  pub is_choice : IsChoice choice
  pub first_true : true_of first choice ≡ true
  pub second_true : true_of second choice ≡ true

-- how the first term stands to the second, with the choices that show it
abbrev pub Relates : Term → Term → Relation → Type 0
Relates first second Satisfies = Implies first second
Relates first second Contradicts = Excludes first second × Exception first second
Relates first second Inconclusive = Exception first second × Shared first second

-- some choice makes the term false
abbrev pub CanBeFalse : Term → Type 0
CanBeFalse term = (choice : Option ℕ) × (true_of term choice ≡ false)

-- the term's set ascends, so that terms that are true of the same choices are equal
abbrev pub IsTerm : Term → Type 0
IsTerm (In set) = IsAscending set
IsTerm (NotIn set) = IsAscending set

-- terms that are true of the same choices are equal
abbrev pub SameTerm : Type 0
SameTerm = (first second : Term) → IsTerm first → IsTerm second → ((choice : Option ℕ) → true_of first choice ≡ true_of second choice) → first ≡ second
