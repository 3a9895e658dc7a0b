-- Slots that hold what was found at their places.
use Rattle.std.proofs.Common.{◌≡◌, ◌⊎◌, ℕ, zero, suc, List, [], ◌∷◌, ◌++◌, Option, Some, None, length, refl, ap, inl, inr, ⊎_elim}
use Rattle.std.specs.Prelude.{slice_get}
use Rattle.pool.specs.Ahead.{AreInPlace}

get_push : {A : Type 0} (xs : List A) (k : ℕ) (x y : A) → slice_get (xs ++ x ∷ []) k ≡ Some y → ((k ≡ length xs) × (x ≡ y)) ⊎ (slice_get xs k ≡ Some y)
get_push [] zero x y e = inl (refl, cc)
get_push [] (suc k) x y e = inr e
get_push (a ∷ xs) zero x y e = inr e
get_push (a ∷ xs) (suc k) x y e = ⊎_elim (λ (h : (k ≡ length xs) × (x ≡ y)). inl (ap suc h.0, h.1)) (λ (h : slice_get xs k ≡ Some y). inr h) (get_push xs k x y e)

some_none : (index : ℕ) (P : Type 0) → None ≡ Some index → P
some_none index P e = cc

pub AreInPlace-push_none : (slots : List (Option ℕ)) → AreInPlace slots → AreInPlace (slots ++ None ∷ [])
AreInPlace-push_none slots h = record {
  each = λ place index e. ⊎_elim (λ (w : (place ≡ length slots) × (None ≡ Some index)). some_none index (index ≡ place) w.1) (λ (w : slice_get slots place ≡ Some (Some index)). h.each place index w) (get_push slots place None (Some index) e);
}
