-- Ascending lists of ordinals, and their members.
use Rattle.std.proofs.Common.{◌≡◌, ◌<◌, ◌≤◌, ◌⊎◌, inl, inr, ℕ, suc, List, [], ◌∷◌, ◌++◌, refl, arith, Bool, true, false, ◌||◌, rules, nat_eq, nat_le, min}
use Rattle.std.proofs.lemmas.Bool.{cases_Bool, ne_eqb}
use Rattle.terms.specs.Sets.{has, AscendingFrom}

-- each is below top
abbrev pub EndsBelow : ℕ → List ℕ → Type 0
EndsBelow low [] = Unit {0}
EndsBelow low (x ∷ xs) = (x < low) × EndsBelow low xs

pub nat_eq-itself : (x : ℕ) → nat_eq x x ≡ true
nat_eq-itself x = search rules

pub or-false : (b : Bool) → (b || false) ≡ b
or-false true = refl
or-false false = refl

pub from_lower : (low high : ℕ) (xs : List ℕ) → low ≤ high → AscendingFrom high xs → AscendingFrom low xs
from_lower low high [] le h = tt
from_lower low high (x ∷ xs) le h = (omega (arith, h.0), h.1)

pub absent : (low k : ℕ) (xs : List ℕ) → AscendingFrom low xs → k < low → has xs k ≡ false
absent low k [] h lt = refl
absent low k (x ∷ xs) h lt =
    let apart : nat_eq x k ≡ false = ne_eqb x k (λ e. omega (arith, e, h.0)) in
    let more : k < suc x = omega (arith, h.0) in
    rw apart (absent (suc x) k xs h.1 more)

pub absent-past : (top k : ℕ) (xs : List ℕ) → EndsBelow top xs → top ≤ k → has xs k ≡ false
absent-past top k [] h le = refl
absent-past top k (x ∷ xs) h le =
    let apart : nat_eq x k ≡ false = ne_eqb x k (λ e. omega (arith, e, h.0)) in
    rw apart (absent-past top k xs h.1 le)

pub AscendingFrom-append : (low mid : ℕ) (xs ys : List ℕ) → AscendingFrom low xs → EndsBelow mid xs → low ≤ mid → AscendingFrom mid ys → AscendingFrom low (xs ++ ys)
AscendingFrom-append low mid [] ys f ends le g = from_lower low mid ys le g
AscendingFrom-append low mid (x ∷ xs) ys f ends le g =
    (f.0, AscendingFrom-append (suc x) mid xs ys f.1 ends.1 (omega (arith, ends.0)) g)

pub either_min : (a b : ℕ) → (a ≡ min a b) ⊎ (b ≡ min a b)
either_min a b = elim (cases_Bool (nat_le a b)) [
  | inl e ↦ let le : a ≤ b = search rules in inl (omega arith)
  | inr e ↦ let lt : b < a = search rules in inr (omega arith)
]
