-- The place of the last assignment on a package, and what is said and decided up to it.
use Rattle.std.proofs.Common.{◌≡◌, ◌<◌, ◌≤◌, ◌∙◌, ℕ, zero, suc, refl, sym, ap, subst, arith, true, ◌&&◌, List, [], ◌∷◌, ◌++◌, length, take, inl, inr, nat_eq, if◌then◌else◌}
use Rattle.std.proofs.lemmas.Bool.{cases_Bool, eqb-true}
use Rattle.std.proofs.lemmas.Option.{none-some, slice_get_within}
use Rattle.std.specs.Prelude.{Option, None, Some, slice_get}
use Rattle.std.specs.Option.{option_or, option_map}
use Rattle.terms.specs.Terms.{true_of}
use Rattle.terms.specs.declared.term.Term.{Term}
use Rattle.search.specs.declared.assignment.Assignment.{Assignment}
use Rattle.search.specs.Assignments.{says, decided, decided_by}
use Rattle.search.specs.Trail.{last_place, through, IsPlaceOn}

pub last_place-push : (made : List Assignment) (a : Assignment) (p : ℕ) → last_place (made ++ a ∷ []) p ≡ (if nat_eq a.pkg p then Some (length made) else last_place made p)
last_place-push [] a p = refl
last_place-push (x ∷ made) a p = elim (cases_Bool (nat_eq a.pkg p)) [
  | inl e ↦ rw (last_place-push made a p, e) refl
  | inr e ↦ rw (last_place-push made a p, e) refl
]

-- it is on the package
pub last_on_package : (made : List Assignment) (p : ℕ) → IsPlaceOn made p (last_place made p)
last_on_package [] p = tt
last_on_package (x ∷ made) p = step (last_place made p) (last_on_package made p)
  where
    step : (o : Option ℕ) → IsPlaceOn made p o → IsPlaceOn (x ∷ made) p (option_or (option_map (λ i. suc i) o) (if nat_eq x.pkg p then Some 0 else None))
    step (Some i) h = h
    step None h = elim (cases_Bool (nat_eq x.pkg p)) [
      | inl e ↦ rw e (x, refl, eqb-true x.pkg p e)
      | inr e ↦ rw e tt
    ]

-- nothing is said of the package behind it
pub says-last : (made : List Assignment) (p : ℕ) (c : Option ℕ) → says made p c ≡ says (take (through (last_place made p)) made) p c
says-last [] p c = refl
says-last (x ∷ made) p c = step (last_place made p) (says-last made p c)
  where
    step : (o : Option ℕ) → says made p c ≡ says (take (through o) made) p c
        → says (x ∷ made) p c ≡ says (take (through (option_or (option_map (λ i. suc i) o) (if nat_eq x.pkg p then Some 0 else None))) (x ∷ made)) p c
    step (Some i) h = ap (λ b. (if nat_eq x.pkg p then true_of x.term c else true) && b) h
    step None h = elim (cases_Bool (nat_eq x.pkg p)) [
      | inl e ↦ rw (e, h, e) refl
      | inr e ↦ rw (e, h) refl
    ]

-- nor is anything decided
pub decided-last : (made : List Assignment) (p : ℕ) → decided made p ≡ decided (take (through (last_place made p)) made) p
decided-last [] p = refl
decided-last (x ∷ made) p = step (last_place made p) (decided-last made p)
  where
    step : (o : Option ℕ) → decided made p ≡ decided (take (through o) made) p
        → decided (x ∷ made) p ≡ decided (take (through (option_or (option_map (λ i. suc i) o) (if nat_eq x.pkg p then Some 0 else None))) (x ∷ made)) p
    step (Some i) h = ap (λ d. option_or (if nat_eq x.pkg p then decided_by x.why else None) d) h
    step None h = elim (cases_Bool (nat_eq x.pkg p)) [
      | inl e ↦ rw (e, h, e) refl
      | inr e ↦ rw (e, h) refl
    ]

-- a place is within the list
pub through-within : (made : List Assignment) (p : ℕ) (o : Option ℕ) → IsPlaceOn made p o → through o ≤ length made
through-within made p None h = omega arith
through-within made p (Some i) h = let lt = slice_get_within made i h.0 h.1 in omega (arith, lt)

pub get-taken : (n : ℕ) (made : List Assignment) (i : ℕ) (a : Assignment) → slice_get (take n made) i ≡ Some a → (i < n) × (slice_get made i ≡ Some a)
get-taken zero made i a e = absurd (none-some a e)
get-taken (suc n) [] i a e = absurd (none-some a e)
get-taken (suc n) (x ∷ made) zero a e = (omega arith, e)
get-taken (suc n) (x ∷ made) (suc i) a e = let more = get-taken n made i a e in (omega (arith, more.0), more.1)

-- a place of a beginning is one of the whole
pub IsPlaceOn-taken : (n : ℕ) (made : List Assignment) (p : ℕ) (o : Option ℕ) → IsPlaceOn (take n made) p o → (through o ≤ n) × IsPlaceOn made p o
IsPlaceOn-taken n made p None h = (omega arith, tt)
IsPlaceOn-taken n made p (Some i) h = let there = get-taken n made i h.0 h.1 in (omega (arith, there.0), (h.0, there.1, h.2))

pub last-within : (made : List Assignment) (p : ℕ) → through (last_place made p) ≤ length made
last-within made p = through-within made p (last_place made p) (last_on_package made p)

-- what is said and decided up to the last place is what all assignments on the package say and decide
pub said-up_to : (made : List Assignment) (p : ℕ) (o : Option ℕ) (t : Term) → o ≡ last_place made p → ((q : ℕ) (c : Option ℕ) → IsPlaceOn made q o → true_of t c ≡ says (take (through o) made) q c)
    → (c : Option ℕ) → true_of t c ≡ says made p c
said-up_to made p o t is h c = h p c (subst (IsPlaceOn made p) (sym is) (last_on_package made p)) ∙ ap (λ x. says (take (through x) made) p c) is ∙ sym (says-last made p c)

pub decided-up_to : (made : List Assignment) (p : ℕ) (o d : Option ℕ) → o ≡ last_place made p → ((q : ℕ) → IsPlaceOn made q o → d ≡ decided (take (through o) made) q) → d ≡ decided made p
decided-up_to made p o d is h = h p (subst (IsPlaceOn made p) (sym is) (last_on_package made p)) ∙ ap (λ x. decided (take (through x) made) p) is ∙ sym (decided-last made p)

-- a package without assignments
pub says-nothing : (made : List Assignment) (p : ℕ) (c : Option ℕ) → last_place made p ≡ None → says made p c ≡ true
says-nothing made p c e = says-last made p c ∙ ap (λ o. says (take (through o) made) p c) e

pub decides-nothing : (made : List Assignment) (p : ℕ) → last_place made p ≡ None → decided made p ≡ None
decides-nothing made p e = decided-last made p ∙ ap (λ o. decided (take (through o) made) p) e
