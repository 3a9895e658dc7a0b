-- A conclusion that follows from two dependencies, and one that does not. Packages: foo 1, bar 2, baz 3.
use Rattle.std.proofs.Common.{◌≡◌, ℕ, zero, suc, List, [], ◌∷◌, refl, Bool, true, false, not, ◌||◌, ◌&&◌, true≢false, nat_eq, rules}
use Rattle.std.specs.Prelude.{Some}
use Rattle.terms.specs.Incompats.{Follows}
use Rattle.terms.specs.Terms.{is_in}
use Rattle.terms.specs.declared.term.Term.{Term}
use Rattle.terms.specs.declared.term.Term.TheVariants.{In, NotIn}

abbrev zero_only : List ℕ
zero_only = 0 ∷ []

abbrev one_only : List ℕ
one_only = 1 ∷ []

-- bar {0} needs baz in {1}
abbrev bar_needs : List (ℕ × Term)
bar_needs = (2, In zero_only) ∷ (3, NotIn one_only) ∷ []

-- foo {0} needs bar in {0}
abbrev foo_needs : List (ℕ × Term)
foo_needs = (1, In zero_only) ∷ (2, NotIn zero_only) ∷ []

abbrev conclusion : List (ℕ × Term)
conclusion = (1, In zero_only) ∷ (3, NotIn one_only) ∷ []

or-not : (b : Bool) → true ≡ (b || not b)
or-not true = refl
or-not false = refl

and-true : (b : Bool) → b ≡ (b && true)
and-true true = refl
and-true false = refl

follows : Follows conclusion bar_needs foo_needs 2
follows zero choice = refl
follows (suc zero) choice = refl
follows (suc (suc zero)) choice = or-not (is_in zero_only choice)
follows (suc (suc (suc zero))) choice = and-true (not (is_in one_only choice))
follows (suc (suc (suc (suc n)))) choice =
    let one : nat_eq 1 (suc (suc (suc (suc n)))) ≡ false = search rules in
    let two : nat_eq 2 (suc (suc (suc (suc n)))) ≡ false = search rules in
    let three : nat_eq 3 (suc (suc (suc (suc n)))) ≡ false = search rules in
    let pivot : nat_eq (suc (suc (suc (suc n)))) 2 ≡ false = search rules in
    rw (one, two, three, pivot) refl

-- with {0} in the place of {1} it does not: baz 1 tells them apart
does-not-follow : Follows ((1, In zero_only) ∷ (3, NotIn zero_only) ∷ []) bar_needs foo_needs 2 → ⊥
does-not-follow f = true≢false (f 3 (Some 1))
