-- What assignments say, of beginnings and of one more.
use Rattle.std.proofs.Common.{◌≡◌, ◌<◌, ◌≤◌, ◌+◌, ◌-◌, ◌∙◌, ℕ, zero, suc, refl, sym, ap, subst, arith, Bool, true, false, ◌&&◌, List, [], ◌∷◌, ◌++◌, length, take, inl, inr, nat_eq, nat_le, get_or, length-append, add-one, if◌then◌else◌}
use Rattle.std.proofs.lemmas.Bool.{cases_Bool, and_parts, and_from, leb-true, leb-false, le-leb, lt-leb, eq-eqb, ne_eqb}
use Rattle.std.proofs.lemmas.List.{append-nil, take-take}
use Rattle.std.proofs.lemmas.Option.{slice_get_read, none-some, same_Some}
use Rattle.std.specs.Prelude.{Option, Some, slice_get}
use Rattle.search.specs.declared.assignment.Assignment.{Assignment}
use Rattle.search.specs.Assignments.{says, one_if, is_decision, decisions, upto, LevelsFrom, IsPartial}
use Rattle.terms.specs.Terms.{true_of}
use Rattle.search.proofs.Beginnings.{get-last}

and_assoc : (x y z : Bool) → (x && (y && z)) ≡ ((x && y) && z)
and_assoc true y z = refl
and_assoc false y z = refl

pub says-append : (xs ys : List Assignment) (p : ℕ) (c : Option ℕ) → says (xs ++ ys) p c ≡ (says xs p c && says ys p c)
says-append [] ys p c = refl
says-append (a ∷ xs) ys p c =
    rw (says-append xs ys p c) (and_assoc (if nat_eq a.pkg p then true_of a.term c else true) (says xs p c) (says ys p c))

pub says-take : (m : ℕ) (made : List Assignment) (p : ℕ) (c : Option ℕ) → says made p c ≡ true → says (take m made) p c ≡ true
says-take zero made p c h = refl
says-take (suc m) [] p c h = refl
says-take (suc m) (a ∷ made) p c h =
    let parts = and_parts (if nat_eq a.pkg p then true_of a.term c else true) (says made p c) h in
    and_from (if nat_eq a.pkg p then true_of a.term c else true) (says (take m made) p c) parts.0 (says-take m made p c parts.1)

-- a longer beginning says more
pub says-shorter : (m n : ℕ) (made : List Assignment) (p : ℕ) (c : Option ℕ) → m ≤ n → says (take n made) p c ≡ true → says (take m made) p c ≡ true
says-shorter m n made p c le h = subst (λ xs. says xs p c ≡ true) (take-take m n made le) (says-take m (take n made) p c h)

and_true : (x : Bool) → (x && true) ≡ x
and_true true = refl
and_true false = refl

-- one assignment more, on another package and on its own
pub says-push_other : (made : List Assignment) (a : Assignment) (p : ℕ) (c : Option ℕ) → (a.pkg ≡ p → ⊥) → says (made ++ a ∷ []) p c ≡ says made p c
says-push_other made a p c apart =
    says-append made (a ∷ []) p c ∙ rw (ne_eqb a.pkg p apart) (and_true (says made p c))

pub says-push_own : (made : List Assignment) (a : Assignment) (p : ℕ) (c : Option ℕ) → a.pkg ≡ p → says (made ++ a ∷ []) p c ≡ (says made p c && true_of a.term c)
says-push_own made a p c same =
    says-append made (a ∷ []) p c ∙ rw (eq-eqb a.pkg p same) (ap (λ b. says made p c && b) (and_true (true_of a.term c)))

pub says-push_fewer : (made : List Assignment) (a : Assignment) (p : ℕ) (c : Option ℕ) → says (made ++ a ∷ []) p c ≡ true → says made p c ≡ true
says-push_fewer made a p c h = (and_parts (says made p c) (says (a ∷ []) p c) (sym (says-append made (a ∷ []) p c) ∙ h)).0

-- ---- levels

pub decisions-append : (xs ys : List Assignment) → decisions (xs ++ ys) ≡ decisions xs + decisions ys
decisions-append [] ys = omega arith
decisions-append (a ∷ xs) ys = omega (arith, decisions-append xs ys)

pub upto-append : (b : ℕ) (xs ys : List Assignment) → upto b (xs ++ ys) ≡ upto b xs ++ upto b ys
upto-append b [] ys = refl
upto-append b (a ∷ xs) ys = elim (cases_Bool (nat_le a.level b)) [
  | inl e ↦ rw e (ap (λ r. a ∷ r) (upto-append b xs ys))
  | inr e ↦ rw e (upto-append b xs ys)
]

-- none of a list that begins above a level is kept
pub upto-above : (b low : ℕ) (made : List Assignment) → LevelsFrom low made → b < low → upto b made ≡ []
upto-above b low [] h lt = refl
upto-above b low (a ∷ made) h lt =
    let above : nat_le a.level b ≡ false = lt-leb a.level b (omega (arith, h.0)) in
    rw above (upto-above b (low + one_if (is_decision a)) made h.1 (omega arith))

-- what is kept is a beginning
pub upto-beginning : (b low : ℕ) (made : List Assignment) → LevelsFrom low made → (m : ℕ) × (m ≤ length made) × (upto b made ≡ take m made)
upto-beginning b low [] h = (0, omega arith, refl)
upto-beginning b low (a ∷ made) h = elim (cases_Bool (nat_le a.level b)) [
  | inl e ↦
      let rest = upto-beginning b (low + one_if (is_decision a)) made h.1 in
      (suc rest.0, omega (arith, rest.1), rw e (ap (λ r. a ∷ r) rest.2))
  | inr e ↦
      let above : b < low + one_if (is_decision a) = omega (arith, leb-false a.level b e, h.0) in
      (0, omega arith, rw e (upto-above b (low + one_if (is_decision a)) made h.1 above))
]

pub LevelsFrom-upto : (b low : ℕ) (made : List Assignment) → LevelsFrom low made → LevelsFrom low (upto b made)
LevelsFrom-upto b low [] h = tt
LevelsFrom-upto b low (a ∷ made) h = elim (cases_Bool (nat_le a.level b)) [
  | inl e ↦ rw e (h.0, LevelsFrom-upto b (low + one_if (is_decision a)) made h.1)
  | inr e ↦
      let above : b < low + one_if (is_decision a) = omega (arith, leb-false a.level b e, h.0) in
      rw (e, upto-above b (low + one_if (is_decision a)) made h.1 above) tt
]

pub LevelsFrom-push : (low : ℕ) (made : List Assignment) (a : Assignment) → LevelsFrom low made → a.level ≡ low + decisions made + one_if (is_decision a) → LevelsFrom low (made ++ a ∷ [])
LevelsFrom-push low [] a h e = (omega (arith, e), tt)
LevelsFrom-push low (x ∷ made) a h e = (h.0, LevelsFrom-push (low + one_if (is_decision x)) made a h.1 (omega (arith, e)))

-- going back to an open level leaves that many decisions
pub decisions-upto : (b low : ℕ) (made : List Assignment) → LevelsFrom low made → low ≤ b → b ≤ low + decisions made → low + decisions (upto b made) ≡ b
decisions-upto b low [] h le ge = omega arith
decisions-upto b low (a ∷ made) h le ge = elim (cases_Bool (nat_le a.level b)) [
  | inl e ↦
      let here : low + one_if (is_decision a) ≤ b = omega (arith, leb-true a.level b e, h.0) in
      let rest = decisions-upto b (low + one_if (is_decision a)) made h.1 here (omega arith) in
      rw e (omega (arith, rest))
  | inr e ↦
      let above : b < low + one_if (is_decision a) = omega (arith, leb-false a.level b e, h.0) in
      let one : one_if (is_decision a) ≤ 1 = one_small (is_decision a) in
      rw (e, upto-above b (low + one_if (is_decision a)) made h.1 above) (omega arith)
]
  where
    one_small : (b : Bool) → one_if b ≤ 1
    one_small true = omega arith
    one_small false = omega arith

-- all are of the last level or lower
pub upto-all : (b low : ℕ) (made : List Assignment) → LevelsFrom low made → low + decisions made ≤ b → upto b made ≡ made
upto-all b low [] h le = refl
upto-all b low (a ∷ made) h le =
    let here : nat_le a.level b ≡ true = le-leb a.level b (omega (arith, h.0)) in
    rw here (ap (λ r. a ∷ r) (upto-all b (low + one_if (is_decision a)) made h.1 (omega arith)))

pub upto-upto : (l b : ℕ) (made : List Assignment) → l ≤ b → upto l (upto b made) ≡ upto l made
upto-upto l b [] le = refl
upto-upto l b (a ∷ made) le = elim (cases_Bool (nat_le a.level b)) [
  | inl e ↦ rw e (elim (cases_Bool (nat_le a.level l)) [
    | inl f ↦ rw f (ap (λ r. a ∷ r) (upto-upto l b made le))
    | inr f ↦ rw f (upto-upto l b made le)
  ])
  | inr e ↦
      let above : nat_le a.level l ≡ false = lt-leb a.level l (omega (arith, leb-false a.level b e)) in
      rw (e, above) (upto-upto l b made le)
]

pub says-upto : (b : ℕ) (made : List Assignment) → LevelsFrom 0 made → (p : ℕ) (c : Option ℕ) → says made p c ≡ true → says (upto b made) p c ≡ true
says-upto b made levels p c h =
    let begin = upto-beginning b 0 made levels in
    rw begin.2 (says-take begin.0 made p c h)

-- ---- the level of the last assignment

last_level : (low n : ℕ) (made : List Assignment) (a : Assignment) → LevelsFrom low made → length made ≡ suc n → slice_get made n ≡ Some a → a.level ≡ low + decisions made
last_level low n [] a h len e = absurd (none-some a e)
last_level low zero (x ∷ []) a h len e = let same : x ≡ a = same_Some x a e in rw (← same) (omega (arith, h.0))
last_level low (suc n) (x ∷ []) a h len e = absurd (none-some a e)
last_level low zero (x ∷ y ∷ rest) a h len e = absurd (omega (arith, len))
last_level low (suc n) (x ∷ y ∷ rest) a h len e =
    let more = last_level (low + one_if (is_decision x)) n (y ∷ rest) a h.1 (omega (arith, len)) e in omega (arith, more)

pub level_read : (made : List Assignment) (a : Assignment) → LevelsFrom 0 made → 1 ≤ length made → a ≡ get_or made (length made - 1) a → a.level ≡ decisions made
level_read made a h some read =
    let at : slice_get made (length made - 1) ≡ Some a = slice_get_read made (length made) (length made - 1) a refl (omega arith) read in
    omega (arith, last_level 0 (length made - 1) made a h (omega arith) at)

-- taking the last one away, where its level is above
pub upto-last_above : (b : ℕ) (made : List Assignment) (a : Assignment) → LevelsFrom 0 (made ++ a ∷ []) → b < decisions (made ++ a ∷ []) → upto b (made ++ a ∷ []) ≡ upto b made
upto-last_above b made a h lt =
    let level : a.level ≡ 0 + decisions (made ++ a ∷ []) = last_level 0 (length made) (made ++ a ∷ []) a h (length-append made (a ∷ []) ∙ omega arith) (get-last made a (length made) refl) in
    upto-append b made (a ∷ []) ∙ rw (lt-leb a.level b (omega (arith, level))) (append-nil (upto b made))

pub LevelsFrom-front : (low : ℕ) (made : List Assignment) (a : Assignment) → LevelsFrom low (made ++ a ∷ []) → LevelsFrom low made
LevelsFrom-front low [] a h = tt
LevelsFrom-front low (x ∷ made) a h = (h.0, LevelsFrom-front (low + one_if (is_decision x)) made a h.1)

pub LevelsFrom-take : (low n : ℕ) (made : List Assignment) → LevelsFrom low made → LevelsFrom low (take n made)
LevelsFrom-take low zero made h = tt
LevelsFrom-take low (suc n) [] h = tt
LevelsFrom-take low (suc n) (a ∷ made) h = (h.0, LevelsFrom-take (low + one_if (is_decision a)) n made h.1)

-- the level of an assignment counts the decisions before it, and the one that it may be
pub level_at_place : (low i : ℕ) (made : List Assignment) (a : Assignment) → LevelsFrom low made → slice_get made i ≡ Some a → a.level ≡ low + decisions (take i made) + one_if (is_decision a)
level_at_place low i [] a h at = absurd (none-some a at)
level_at_place low zero (x ∷ made) a h at = let same : x ≡ a = same_Some x a at in rw (← same) (omega (arith, h.0))
level_at_place low (suc i) (x ∷ made) a h at = omega (arith, level_at_place (low + one_if (is_decision x)) i made a h.1 at)

pub decisions-take : (m n : ℕ) (made : List Assignment) → m ≤ n → decisions (take m made) ≤ decisions (take n made)
decisions-take zero n made le = omega arith
decisions-take (suc m) n [] le = omega arith
decisions-take (suc m) zero (a ∷ made) le = absurd (omega arith)
decisions-take (suc m) (suc n) (a ∷ made) le = omega (arith, decisions-take m n made (omega arith))

-- the level of each assignment is the number of decisions at or before it
level_at : (low i : ℕ) (made : List Assignment) (a : Assignment) → LevelsFrom low made → slice_get made i ≡ Some a → a.level ≡ low + decisions (take (suc i) made)
level_at low i [] a h e = absurd (none-some a e)
level_at low zero (x ∷ made) a h e = let same : x ≡ a = same_Some x a e in rw (← same) (omega (arith, h.0))
level_at low (suc i) (x ∷ made) a h e =
    let more = level_at (low + one_if (is_decision x)) i made a h.1 e in omega (arith, more)

pub level_counts : (made : List Assignment) → IsPartial made → (i : ℕ) (a : Assignment) → slice_get made i ≡ Some a → a.level ≡ decisions (take (i + 1) made)
level_counts made h i a e = rw add-one (omega (arith, level_at 0 i made a h.levels e))
