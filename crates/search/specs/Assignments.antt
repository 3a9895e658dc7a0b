-- A partial solution: assignments in the order in which they were made, and what they say of packages.
use Rattle.std.specs.Prelude.{◌≡◌, ◌+◌, ◌<◌, ◌^◌, ℕ, Bool, true, false, not, ◌&&◌, ◌||◌, List, [], ◌∷◌, Option, None, Some, is_some, nat_eq, nat_le, slice_get, take, if◌then◌else◌}
use Rattle.std.specs.Option.{option_or}
use Rattle.terms.specs.Terms.{true_of}
use Rattle.terms.specs.declared.term.Term.{Term}
use Rattle.terms.specs.declared.term.Term.TheVariants.{In, NotIn}
use Rattle.search.specs.declared.assignment.Assignment.{Assignment}
use Rattle.search.specs.declared.assignment.Why.{Why}
use Rattle.search.specs.declared.assignment.Why.TheVariants.{Decided, Derived}

-- whether the assignments on a package are all true of a choice
abbrev pub says : List Assignment → ℕ → Option ℕ → Bool
says [] pkg choice = true
says (a ∷ rest) pkg choice = (if nat_eq a.pkg pkg then true_of a.term choice else true) && says rest pkg choice

-- ---- decisions and their levels

-- the ordinal that a decision is for
abbrev pub decided_by : Why → Option ℕ
decided_by (Decided ordinal) = Some ordinal
decided_by (Derived cause) = None

abbrev pub is_decision : Assignment → Bool
is_decision a = is_some (decided_by a.why)

abbrev pub one_if : Bool → ℕ
one_if true = 1
one_if false = 0

-- how many of the assignments are decisions, which is the level of the last one
abbrev pub decisions : List Assignment → ℕ
decisions [] = 0
decisions (a ∷ rest) = one_if (is_decision a) + decisions rest

-- the assignments of a level or lower, in order
abbrev pub upto : ℕ → List Assignment → List Assignment
upto level [] = []
upto level (a ∷ rest) = if nat_le a.level level then a ∷ upto level rest else upto level rest

-- the ordinal that is decided of a package
abbrev pub decided : List Assignment → ℕ → Option ℕ
decided [] pkg = None
decided (a ∷ rest) pkg = option_or (if nat_eq a.pkg pkg then decided_by a.why else None) (decided rest pkg)

abbrev pub is_decided : List Assignment → ℕ → Bool
is_decided made pkg = is_some (decided made pkg)

-- ---- packages to decide

-- the assignments on the package are true of no choice but this ordinal
abbrev pub SaysOnly : List Assignment → ℕ → ℕ → Type 0
SaysOnly made pkg ordinal = (choice : Option ℕ) → says made pkg choice ≡ true → choice ≡ Some ordinal

-- the decision for an ordinal after these assignments, on a level of its own
abbrev pub decision_after : List Assignment → ℕ → ℕ → Assignment
decision_after made pkg ordinal = record { pkg = pkg; term = In (ordinal ∷ []); level = decisions made + 1; why = Decided ordinal }

abbrev pub is_positive : Term → Bool
is_positive (In set) = true
is_positive (NotIn set) = false

-- whether a derivation says that the package is selected
abbrev pub has_positive_derivation : List Assignment → ℕ → Bool
has_positive_derivation [] pkg = false
has_positive_derivation (a ∷ rest) pkg = (nat_eq a.pkg pkg && (not (is_decision a) && is_positive a.term)) || has_positive_derivation rest pkg

-- whether the package has a positive derivation and no decision
abbrev pub is_undecided : List Assignment → ℕ → Bool
is_undecided made pkg = has_positive_derivation made pkg && not (is_decided made pkg)

-- an undecided package is selected by each choice that makes the assignments true
abbrev pub UndecidedIsSelected : Type 0
UndecidedIsSelected = (made : List Assignment) (pkg : ℕ) → is_undecided made pkg ≡ true → says made pkg None ≡ false

-- ---- what each list of assignments keeps

-- the level of each is the number of decisions at or before it, where `low` decisions came earlier
abbrev pub LevelsFrom : ℕ → List Assignment → Type 0
LevelsFrom low [] = Unit {0}
LevelsFrom low (a ∷ rest) = (a.level ≡ low + one_if (is_decision a)) × LevelsFrom (low + one_if (is_decision a)) rest

-- the term of a decision is its ordinal alone
abbrev pub IsExact : Why → Term → Type 0
IsExact (Decided ordinal) term = term ≡ In (ordinal ∷ [])
IsExact (Derived cause) term = Unit {0}

-- each is on a package number of 32 bits, and each decision is exact
abbrev pub AreAssignments : List Assignment → Type 0
AreAssignments [] = Unit {0}
AreAssignments (a ∷ rest) = (a.pkg < 2 ^ 32) × IsExact a.why a.term × AreAssignments rest

-- no package is decided twice
abbrev pub DecidedOnce : List Assignment → Type 0
DecidedOnce [] = Unit {0}
DecidedOnce (a ∷ rest) = (is_decision a ≡ true → is_decided rest a.pkg ≡ false) × DecidedOnce rest

-- the assignments leave a choice of each package
abbrev pub LeavesChoices : List Assignment → Type 0
LeavesChoices made = (pkg : ℕ) → (choice : Option ℕ) × (says made pkg choice ≡ true)

-- the assignments are those of a partial solution
pub record IsPartial (made : List Assignment) : Type 0 where
  pub assignments : AreAssignments made
  pub levels : LevelsFrom 0 made
  pub once : DecidedOnce made
  pub possible : LeavesChoices made

-- the assignments on a package do not contradict the term: some choice makes them and the term true
abbrev pub IsOpenTo : List Assignment → ℕ → Term → Type 0
IsOpenTo made pkg term = (choice : Option ℕ) × (says made pkg choice ≡ true) × (true_of term choice ≡ true)

-- the level of an assignment is the number of decisions at or before it
abbrev pub LevelsCountDecisions : Type 0
LevelsCountDecisions = (made : List Assignment) → IsPartial made → (i : ℕ) (a : Assignment) → slice_get made i ≡ Some a → a.level ≡ decisions (take (i + 1) made)
