-- Lists with one more element, by index.
use Rattle.std.proofs.Common.{◌≡◌, ◌<◌, ◌≤◌, ◌∙◌, ℕ, zero, suc, refl, sym, ap, arith, List, [], ◌∷◌, ◌++◌, length, take, inl, inr}
use Rattle.std.proofs.lemmas.Bool.{cases_lt, cases_eq}
use Rattle.std.proofs.lemmas.Option.{none-some}
use Rattle.std.specs.Prelude.{Some, slice_get, ◌⊎◌}

pub get-front : {X : Type 0} (xs : List X) (x : X) (i : ℕ) → i < length xs → slice_get (xs ++ x ∷ []) i ≡ slice_get xs i
get-front [] x i lt = absurd (omega arith)
get-front (y ∷ ys) x zero lt = refl
get-front (y ∷ ys) x (suc i) lt = get-front ys x i (omega arith)

pub get-last : {X : Type 0} (xs : List X) (x : X) (i : ℕ) → i ≡ length xs → slice_get (xs ++ x ∷ []) i ≡ Some x
get-last [] x zero e = refl
get-last [] x (suc i) e = absurd (omega arith)
get-last (y ∷ ys) x zero e = absurd (omega arith)
get-last (y ∷ ys) x (suc i) e = get-last ys x i (omega arith)

get-past : {X : Type 0} (xs : List X) (x y : X) (i : ℕ) → length xs < i → slice_get (xs ++ x ∷ []) i ≡ Some y → ⊥
get-past [] x y zero lt e = omega arith
get-past [] x y (suc i) lt e = none-some y e
get-past (z ∷ zs) x y zero lt e = omega arith
get-past (z ∷ zs) x y (suc i) lt e = get-past zs x y i (omega arith) e

-- an element of a list with one more stands in the list, or is that one
pub get-cases : {X : Type 0} (xs : List X) (x y : X) (i : ℕ) → slice_get (xs ++ x ∷ []) i ≡ Some y → ((i < length xs) × (slice_get xs i ≡ Some y)) ⊎ ((i ≡ length xs) × (Some x ≡ Some y))
get-cases xs x y i e = elim (cases_lt i (length xs)) [
  | inl lt ↦ inl (lt, sym (get-front xs x i lt) ∙ e)
  | inr ge ↦ elim (cases_eq i (length xs)) [
    | inl same ↦ inr (same, sym (get-last xs x i same) ∙ e)
    | inr apart ↦ absurd (get-past xs x y i (omega arith) e)
  ]
]

pub take-front : {X : Type 0} (xs : List X) (x : X) (i : ℕ) → i ≤ length xs → take i (xs ++ x ∷ []) ≡ take i xs
take-front xs x zero le = refl
take-front [] x (suc i) le = absurd (omega arith)
take-front (y ∷ ys) x (suc i) le = ap (λ l. y ∷ l) (take-front ys x i (omega arith))

pub take-whole : {X : Type 0} (xs : List X) (x : X) (i : ℕ) → i ≡ length xs → take i (xs ++ x ∷ []) ≡ xs
take-whole [] x zero e = refl
take-whole [] x (suc i) e = absurd (omega arith)
take-whole (y ∷ ys) x zero e = absurd (omega arith)
take-whole (y ∷ ys) x (suc i) e = ap (λ l. y ∷ l) (take-whole ys x i (omega arith))
