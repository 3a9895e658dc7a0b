-- What the last line says.
use Rattle.std.proofs.Common.{◌≡◌, ◌<◌, ◌-◌, ◌+◌, ℕ, zero, suc, List, [], ◌∷◌, length, get_or, refl, arith, true, false, true≢false, nat_eq}
use Rattle.std.specs.Prelude.{Option, None, Some, IsSome, is_some}
use Rattle.std.specs.Borrow.{Bor}
use Rattle.std.specs.Option.{option_copied}
use Rattle.derivations.specs.Derivations.{last_conclusion}
use Rattle.derivations.specs.Lines.{Line}

pub last_conclusion-at : (lines : List Line) (k : ℕ) (d : Line) → k + 1 ≡ length lines → last_conclusion lines ≡ Some (get_or lines k d).conclusion
last_conclusion-at [] k d e = absurd (omega (arith, e))
last_conclusion-at (x ∷ []) zero d e = refl
last_conclusion-at (x ∷ []) (suc k) d e = absurd (omega (arith, e))
last_conclusion-at (x ∷ y ∷ rest) zero d e = absurd (omega (arith, e))
last_conclusion-at (x ∷ y ∷ rest) (suc k) d e = last_conclusion-at (y ∷ rest) k d (omega (arith, e))

pub last_conclusion-none : (lines : List Line) → length lines ≡ 0 → last_conclusion lines ≡ None
last_conclusion-none [] e = refl
last_conclusion-none (x ∷ rest) e = absurd (omega (arith, e))

pub not_empty : (n : ℕ) → nat_eq n 0 ≡ false → n - 1 + 1 ≡ n
not_empty zero e = absurd (true≢false e)
not_empty (suc n) e = omega arith

-- some line is the last one
pub some_last : (lines : List Line) → 0 < length lines → is_some (last_conclusion lines) ≡ true
some_last [] lt = absurd (omega arith)
some_last (x ∷ []) lt = refl
some_last (x ∷ y ∷ rest) lt = some_last (y ∷ rest) (omega arith)

pub some_copied : {A : Type 0} (o : Option (Bor A)) → is_some (option_copied o) ≡ true → IsSome o
some_copied None e = e
some_copied (Some x) e = refl
