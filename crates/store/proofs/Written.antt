-- What is read of a list in which one place was written.
use Rattle.std.proofs.Common.{◌≡◌, ◌≢◌, ◌<◌, ℕ, zero, suc, List, [], ◌∷◌, ap, arith, length, refl}
use Rattle.std.proofs.Math.ListN.{set}
use Rattle.std.specs.Prelude.{Some, slice_get}

-- there
pub get_written : {A : Type 0} (xs : List A) (i : ℕ) (x : A) → i < length xs → slice_get (set xs i x) i ≡ Some x
get_written [] i x lt = absurd (omega (arith, lt))
get_written (y ∷ xs) zero x lt = refl
get_written (y ∷ xs) (suc i) x lt = get_written xs i x (omega (arith, lt))

-- elsewhere
pub get_elsewhere : {A : Type 0} (xs : List A) (i k : ℕ) (x : A) → k ≢ i → slice_get (set xs i x) k ≡ slice_get xs k
get_elsewhere [] i k x apart = refl
get_elsewhere (y ∷ xs) zero zero x apart = absurd (apart refl)
get_elsewhere (y ∷ xs) zero (suc k) x apart = refl
get_elsewhere (y ∷ xs) (suc i) zero x apart = refl
get_elsewhere (y ∷ xs) (suc i) (suc k) x apart = get_elsewhere xs i k x (λ e. apart (ap suc e))
