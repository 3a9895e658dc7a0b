-- Packages by their numbers and names.
use Rattle.std.proofs.Common.{◌≡◌, ◌≢◌, ◌<◌, ◌≤◌, ℕ, zero, suc, List, [], ◌∷◌, length, refl, arith, true, inl, inr}
use Rattle.std.proofs.lemmas.Bool.{cases_Bool, leb-true}
use Rattle.std.proofs.lemmas.Option.{none-some, same_Some}
use Rattle.std.specs.Prelude.{Some, slice_get, IsSome, is_some, nat_le}
use Rattle.versions.specs.Words.{Text}
use Rattle.registry.specs.Registry.{Packages, is_named, number_from, number_of, package_at}

number_from-above : (n : ℕ) (packages : Packages) (name : Text) (q : ℕ) → number_from n packages name ≡ Some q → n ≤ q
number_from-above n [] name q e = absurd (none-some q e)
number_from-above n (p ∷ rest) name q e = elim (cases_Bool (is_named name p)) [
  | inl t ↦ let same : n ≡ q = same_Some n q (rw t at e) in omega (arith, same)
  | inr f ↦ let more = number_from-above (suc n) rest name q (rw f at e) in omega (arith, more)
]

-- no package has the root's number
pub number_of-positive : (packages : Packages) (name : Text) (q : ℕ) → number_of packages name ≡ Some q → 1 ≤ q
unfolding number_of
number_of-positive packages name q e = number_from-above 1 packages name q e

pub not_root : (packages : Packages) (name : Text) (q : ℕ) → number_of packages name ≡ Some q → 0 ≢ q
not_root packages name q e same = let above = number_of-positive packages name q e in omega (arith, above, same)

there : {A : Type 0} (xs : List A) (k : ℕ) → k < length xs → is_some (slice_get xs k) ≡ true
there [] k lt = absurd (omega arith)
there (x ∷ xs) zero lt = refl
there (x ∷ xs) (suc k) lt = there xs k (omega arith)

-- the packages are numbered from 1 to their count
pub numbered_below : (packages : Packages) (p n : ℕ) → 1 ≤ p → n ≡ length packages → nat_le p n ≡ true → IsSome (package_at packages p)
unfolding package_at
numbered_below packages zero n from e h = absurd (omega arith)
numbered_below packages (suc k) n from e h = there packages k (let le : suc k ≤ n = leb-true (suc k) n h in omega (arith, le, e))
