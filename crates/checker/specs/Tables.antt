-- What a table of terms by package does.
use Rattle.std.specs.Prelude.{◌≡◌, ◌&&◌, ◌||◌, ◌⊎◌, ℕ, suc, Bool, true, false, List, [], ◌∷◌, Option, Some, nat_eq, slice_get, if◌then◌else◌}
use Rattle.terms.specs.Fronts.{true_where}
use Rattle.terms.specs.Incompats.{Follows, has_term, true_at}
use Rattle.terms.specs.Terms.{true_of}
use Rattle.terms.specs.declared.term.Term.{Term}
use Rattle.terms.specs.declared.term.Term.TheVariants.{In, NotIn}
use Rattle.derivations.specs.Facts.{Terms}

-- at most one term a package
abbrev pub AreOnce : Terms → Type 0
AreOnce [] = Unit {0}
AreOnce (t ∷ rest) = (has_term rest t.0 ≡ false) × AreOnce rest

-- by package its term's place is kept, counted from n on
abbrev pub ArePlaced : ℕ → List ℕ → Terms → Type 0
ArePlaced n places [] = Unit {0}
ArePlaced n places (t ∷ rest) = (slice_get places t.0 ≡ Some n) × ArePlaced (suc n) places rest

-- a term on the package stands at this place
abbrev pub IsAt : Terms → ℕ → ℕ → Type 0
IsAt terms pkg place = (term : Term) × (slice_get terms place ≡ Some (pkg, term))

-- both say the same of all choices
abbrev pub SaysSame : Terms → Terms → Type 0
SaysSame one two = (pkg : ℕ) (choice : Option ℕ) → true_at one pkg choice ≡ true_at two pkg choice

-- the new terms say what the old ones do, and of the package also the term
abbrev pub IsAnded : Terms → Terms → ℕ → Term → Type 0
IsAnded old new pkg term = (p : ℕ) (choice : Option ℕ) → true_at new p choice ≡ (if nat_eq pkg p then true_at old p choice && true_of term choice else true_at old p choice)

-- what is said of a package where one or the other is to be true, which always is where there is no other
abbrev pub IsOred : Terms → Terms → ℕ → Option Term → Type 0
IsOred old new pkg other = (p : ℕ) (choice : Option ℕ) → true_at new p choice ≡ (if nat_eq pkg p then true_at old p choice || true_where other choice else true_at old p choice)

-- the new terms say what the old ones and the cause do, but of the pivot what the old ones do
abbrev pub AreAnded : Terms → Terms → Terms → ℕ → Type 0
AreAnded old new cause pivot = (p : ℕ) (choice : Option ℕ) → true_at new p choice ≡ (if nat_eq p pivot then true_at old p choice else true_at old p choice && true_at cause p choice)

-- nothing is said of the package: every choice of it makes the terms true
abbrev pub SaysNothing : Terms → ℕ → Type 0
SaysNothing terms pkg = (choice : Option ℕ) → true_at terms pkg choice ≡ true

-- something is said of the package: some choice of it makes the terms false
abbrev pub SaysSomething : Terms → ℕ → Type 0
SaysSomething terms pkg = (choice : Option ℕ) × (true_at terms pkg choice ≡ false)

-- nothing is said of the pivot, and nothing was done; or something is, and the new terms follow from the old ones and the cause on the pivot, on which the old ones have a term
abbrev pub IsStep : Terms → Terms → Terms → ℕ → Type 0
IsStep old new cause pivot = (SaysNothing old pivot × (new ≡ old)) ⊎ ((has_term old pivot ≡ true) × SaysSomething old pivot × Follows new old cause pivot)

-- whether the term is true of every choice
abbrev pub is_always : Term → Bool
is_always (In set) = false
is_always (NotIn []) = true
is_always (NotIn (k ∷ rest)) = false

-- the terms without those that always hold, in the same order
abbrev pub without_always : Terms → Terms
without_always [] = []
without_always (t ∷ rest) = if is_always t.1 then without_always rest else t ∷ without_always rest

-- the terms are those of the table without those that always hold, and so say the same
pub record Concludes (table terms : Terms) : Type 0 where
  pub exact : terms ≡ without_always table
  pub same : SaysSame terms table
  pub once : AreOnce terms
  pub none : table ≡ [] → terms ≡ []
