-- What a growing list of packages with their ordinals selects.
use Rattle.std.proofs.Common.{◌≡◌, ◌<◌, ◌+◌, ◌∙◌, ℕ, zero, suc, refl, sym, ap, subst, arith, ◌⊎◌, List, [], ◌∷◌, ◌++◌, length, take, get_or, inl, inr, nat_eq, Contains, true, false, true≢false}
use Rattle.std.proofs.Math.Seq.{take-append_seam}
use Rattle.std.proofs.lemmas.Bool.{cases_Bool, cases_eq, eq-eqb, eqb-true}
use Rattle.std.proofs.lemmas.List.{append-nil, append_assoc, take_more}
use Rattle.std.proofs.lemmas.Map.Entries.{place_from_lookup}
use Rattle.std.proofs.lemmas.Option.{get_or_from_slice_get, slice_get_read, slice_get_within, none-some, same_Some}
use Rattle.std.specs.Prelude.{None, Option, Some, is_some, slice_get}
use Rattle.walk.specs.Choosing.{choice_of}
use Rattle.walk.specs.Walks.{Grows}

-- what is selected stays so where the list grows
pub choice-left : (found more : List (ℕ × ℕ)) (p k : ℕ) → choice_of found p ≡ Some k → choice_of (found ++ more) p ≡ Some k
choice-left [] more p k h = absurd (none-some k h)
choice-left (e ∷ found) more p k h = elim (cases_Bool (nat_eq p e.0)) [
  | inl t ↦ rw t (rw t at h)
  | inr f ↦ rw f (choice-left found more p k (rw f at h))
]

-- a package that was not there has the version that comes last
pub choice-push_here : (found : List (ℕ × ℕ)) (p k : ℕ) → choice_of found p ≡ None → choice_of (found ++ (p, k) ∷ []) p ≡ Some k
choice-push_here [] p k h = rw (eq-eqb p p refl) refl
choice-push_here (e ∷ found) p k h = elim (cases_Bool (nat_eq p e.0)) [
  | inl t ↦ absurd (none-some e.1 (sym (rw t at h)))
  | inr f ↦ rw f (choice-push_here found p k (rw f at h))
]

-- what is selected was so before, or comes last
pub choice-push_cases : (found : List (ℕ × ℕ)) (q v p k : ℕ) → choice_of (found ++ (q, v) ∷ []) p ≡ Some k → (choice_of found p ≡ Some k) ⊎ ((q ≡ p) × (v ≡ k))
choice-push_cases [] q v p k h = elim (cases_Bool (nat_eq p q)) [
  | inl t ↦ inr (sym (eqb-true p q t), same_Some v k (rw t at h))
  | inr f ↦ absurd (none-some k (rw f at h))
]
choice-push_cases (e ∷ found) q v p k h = elim (cases_Bool (nat_eq p e.0)) [
  | inl t ↦ inl (rw t (rw t at h))
  | inr f ↦ rw f (choice-push_cases found q v p k (rw f at h))
]

-- a choice is one of the entries
pub choice-entry : (found : List (ℕ × ℕ)) (p k : ℕ) → choice_of found p ≡ Some k → (i : ℕ) × (slice_get found i ≡ Some (p, k))
choice-entry found p k h = let place = place_from_lookup (nat_eq p) found k h in (place.0, place.2 ∙ ap (λ q. Some (q, k)) (sym (eqb-true p place.1 place.3)))

-- what was there stays at its place
pub get-left : {A : Type 0} (xs more : List A) (i : ℕ) (x : A) → slice_get xs i ≡ Some x → slice_get (xs ++ more) i ≡ Some x
get-left [] more i x h = absurd (none-some x h)
get-left (y ∷ xs) more zero x h = h
get-left (y ∷ xs) more (suc i) x h = get-left xs more i x h

-- what is put behind comes last
pub pushed_at : {A : Type 0} (xs : List A) (x : A) (i : ℕ) (e : A) → slice_get (xs ++ x ∷ []) i ≡ Some e → (slice_get xs i ≡ Some e) ⊎ ((i ≡ length xs) × (x ≡ e))
pushed_at [] x zero e at = inr (refl, same_Some x e at)
pushed_at [] x (suc i) e at = absurd (none-some e at)
pushed_at (y ∷ xs) x zero e at = inl at
pushed_at (y ∷ xs) x (suc i) e at = elim (pushed_at xs x i e at) [
  | inl before ↦ inl before
  | inr last ↦ inr (omega (arith, last.0), last.1)
]

-- what holds at each place before one, and there, holds at each before the next
pub one_more : {A : Type 0} (P : A → Type 0) (xs : List A) (i : ℕ) (x : A) → ((j : ℕ) (y : A) → j < i → slice_get xs j ≡ Some y → P y) → slice_get xs i ≡ Some x → P x
    → (j : ℕ) (y : A) → j < i + 1 → slice_get xs j ≡ Some y → P y
one_more P xs i x before at here j y lt at_j = elim (cases_eq j i) [
  | inl same ↦ subst P (same_Some x y (sym at ∙ ap (slice_get xs) (sym same) ∙ at_j)) here
  | inr apart ↦ before j y (omega (arith, lt, apart)) at_j
]

-- one more of a list
pub take_one : {A : Type 0} (xs : List A) (i : ℕ) (x : A) → slice_get xs i ≡ Some x → take (i + 1) xs ≡ take i xs ++ x ∷ []
take_one xs i x at = take_more xs i x (slice_get_within xs i x at) ∙ ap (λ y. take i xs ++ y ∷ []) (get_or_from_slice_get xs i x x at)

pub get-taken : {A : Type 0} (m : ℕ) (xs : List A) (i : ℕ) (x : A) → slice_get (take m xs) i ≡ Some x → (i < m) × (slice_get xs i ≡ Some x)
get-taken zero xs i x h = absurd (none-some x h)
get-taken (suc m) [] i x h = absurd (none-some x h)
get-taken (suc m) (z ∷ xs) zero x h = (omega arith, h)
get-taken (suc m) (z ∷ xs) (suc i) x h = let more = get-taken m xs i x h in (omega (arith, more.0), more.1)

pub get-some : {A : Type 0} (xs : List A) (i : ℕ) → i < length xs → (x : A) × (slice_get xs i ≡ Some x)
get-some [] i lt = absurd (omega (arith, lt))
get-some (x ∷ xs) zero lt = (x, refl)
get-some (x ∷ xs) (suc i) lt = get-some xs i (omega (arith, lt))

-- what stands behind a front
pub front-taken : {A : Type 0} (whole front rest : List A) → whole ≡ front ++ rest → take (length front) whole ≡ front
front-taken whole front rest is = ap (take (length front)) is ∙ take-append_seam front rest

pub front-next : {A : Type 0} (whole front rest : List A) (x : A) → whole ≡ front ++ x ∷ rest → slice_get whole (length front) ≡ Some x
front-next {A} whole front rest x is = ap (λ (xs : List A). slice_get xs (length front)) is ∙ behind front
  where
    behind : (xs : List A) → slice_get (xs ++ x ∷ rest) (length xs) ≡ Some x
    behind [] = refl
    behind (y ∷ xs) = behind xs

-- the line that was read stands at its index
pub line_read : {A : Type 0} (read lines : List A) (i : ℕ) (line : A) → read ≡ lines → i < length lines → line ≡ get_or read i line → slice_get lines i ≡ Some line
line_read {A} read lines i line same lt is = subst (λ (l : List A). slice_get l i ≡ Some line) same (slice_get_read read (length read) i line refl (omega (arith, ap length same, lt)) is)

-- and what stands at an earlier place was there
pub get-before : {A : Type 0} (xs more : List A) (i j : ℕ) (x y : A) → slice_get xs i ≡ Some y → j < i → slice_get (xs ++ more) j ≡ Some x → slice_get xs j ≡ Some x
get-before [] more i j x y at lt h = absurd (none-some y at)
get-before (z ∷ xs) more zero j x y at lt h = absurd (omega arith)
get-before (z ∷ xs) more (suc i) zero x y at lt h = h
get-before (z ∷ xs) more (suc i) (suc j) x y at lt h = get-before xs more i j x y at (omega arith) h

-- what is among the elements stands at a place, and the other way round
pub contains_at : {A : Type 0} (xs : List A) (x : A) → Contains xs x → (i : ℕ) × (slice_get xs i ≡ Some x)
contains_at xs x h = (h.0, slice_get_read xs (length xs) h.0 x refl h.1 (sym h.2))

pub get-contains : {A : Type 0} (xs : List A) (i : ℕ) (x : A) → slice_get xs i ≡ Some x → Contains xs x
get-contains [] i x at = absurd (none-some x at)
get-contains (y ∷ xs) zero x at = (0, omega arith, same_Some y x at)
get-contains (y ∷ xs) (suc i) x at = let rest = get-contains xs i x at in (suc rest.0, omega (arith, rest.1), rest.2)

-- what a test of an option says
pub some_value : {A : Type 0} (o : Option A) → is_some o ≡ true → (x : A) × (o ≡ Some x)
some_value None e = absurd (true≢false (sym e))
some_value (Some x) e = (x, refl)

pub no_value : {A : Type 0} (o : Option A) → is_some o ≡ false → o ≡ None
no_value None e = refl
no_value (Some x) e = absurd (true≢false e)

pub grown_none : (found : List (ℕ × ℕ)) → Grows found found
grown_none found = ([], sym (append-nil found))

-- where two lists grow one after the other, the first grows to the last
pub grown-grown : (old found new : List (ℕ × ℕ)) → Grows old found → Grows found new → Grows old new
grown-grown old found new g h = (g.0 ++ h.0, h.1 ∙ ap (λ xs. xs ++ h.0) g.1 ∙ append_assoc old g.0 h.0)

-- ---- one list behind another

-- what is selected by both is selected by the first, or is among the second
pub choice-append_cases : (found more : List (ℕ × ℕ)) (p k : ℕ) → choice_of (found ++ more) p ≡ Some k → (choice_of found p ≡ Some k) ⊎ Contains more (p, k)
choice-append_cases [] more p k h = let at = choice-entry more p k h in inr (get-contains more at.0 (p, k) at.1)
choice-append_cases (e ∷ found) more p k h = elim (cases_Bool (nat_eq p e.0)) [
  | inl t ↦ inl (rw t (rw t at h))
  | inr f ↦ rw f (choice-append_cases found more p k (rw f at h))
]
