-- The ordinals of the published versions that meet a requirement.
use Rattle.std.proofs.Common.{◌≡◌, ◌∙◌, ◌<◌, ◌≤◌, inl, inr, ℕ, zero, suc, ◌+◌, List, [], ◌∷◌, refl, sym, subst, arith, true, false, rules, nat_eq}
use Rattle.std.specs.Prelude.{Option, Some, None, slice_get}
use Rattle.std.specs.Option.{option_and_then}
use Rattle.std.proofs.lemmas.Bool.{cases_Bool, ne_eqb}
use Rattle.versions.specs.Words.{Text, meets}
use Rattle.terms.specs.Sets.{AscendingFrom, IsAscending, SameSet, has}
use Rattle.registry.specs.Registry.{Package, Packages, Publication, matching, matching_from, meets_at, package_at, publication_at, publication_meets, versions_or_none}

from_lower : (low high : ℕ) (xs : List ℕ) → low ≤ high → AscendingFrom high xs → AscendingFrom low xs
from_lower low high [] le h = tt
from_lower low high (x ∷ xs) le h = (omega (arith, h.0), h.1)

absent : (low k : ℕ) (xs : List ℕ) → AscendingFrom low xs → k < low → has xs k ≡ false
absent low k [] h lt = refl
absent low k (x ∷ xs) h lt =
    let apart : nat_eq x k ≡ false = ne_eqb x k (λ e. omega (arith, e, h.0)) in
    let more : k < suc x = omega (arith, h.0) in
    rw apart (absent (suc x) k xs h.1 more)

matching_from-ascends : (n : ℕ) (versions : List Publication) (need : Text) → AscendingFrom n (matching_from n versions need)
matching_from-ascends n [] need = tt
matching_from-ascends n (v ∷ rest) need = elim (cases_Bool (meets need v.version)) [
  | inl e ↦ rw e (omega arith, matching_from-ascends (suc n) rest need)
  | inr e ↦ rw e (from_lower n (suc n) (matching_from (suc n) rest need) (omega arith) (matching_from-ascends (suc n) rest need))
]

-- a version is among the matching ones exactly where it meets the requirement
matching_from-has : (n : ℕ) (versions : List Publication) (need : Text) (k : ℕ) → has (matching_from n versions need) (n + k) ≡ publication_meets (slice_get versions k) need
matching_from-has n [] need k = refl
matching_from-has n (v ∷ rest) need zero = elim (cases_Bool (meets need v.version)) [
  | inl e ↦ let same : nat_eq n (n + 0) ≡ true = search rules in rw (e, same) refl
  | inr e ↦ rw e (absent (suc n) (n + 0) (matching_from (suc n) rest need) (matching_from-ascends (suc n) rest need) (omega arith))
]
matching_from-has n (v ∷ rest) need (suc k) =
    let place : suc n + k ≡ n + suc k = omega arith in
    let later : has (matching_from (suc n) rest need) (n + suc k) ≡ publication_meets (slice_get rest k) need =
    subst (λ j. has (matching_from (suc n) rest need) j ≡ publication_meets (slice_get rest k) need) place (matching_from-has (suc n) rest need k) in
    let apart : nat_eq n (n + suc k) ≡ false = ne_eqb n (n + suc k) (λ e. omega (arith, e)) in
    elim (cases_Bool (meets need v.version)) [ inl e ↦ rw (e, apart) later | inr e ↦ rw e later ]

pub has-matching : (packages : Packages) (q : ℕ) (need : Text) (k : ℕ) → has (matching packages q need) k ≡ meets_at packages q k need
unfolding matching publication_at
has-matching packages q need k = by (package_at packages q)
  where
    by : (o : Option Package) → has (matching_from 0 (versions_or_none o) need) k ≡ publication_meets (option_and_then (λ (pack : Package). slice_get pack.versions k) o) need
    by None = refl
    by (Some pack) =
        let place : 0 + k ≡ k = omega arith in
        subst (λ j. has (matching_from 0 pack.versions need) j ≡ publication_meets (slice_get pack.versions k) need) place (matching_from-has 0 pack.versions need k)

matching-ascends : (packages : Packages) (q : ℕ) (need : Text) → IsAscending (matching packages q need)
unfolding matching
matching-ascends packages q need = matching_from-ascends 0 (versions_or_none (package_at packages q)) need

-- an ascending set of exactly the versions that meet a requirement is the matching set
pub is_matching : SameSet → (packages : Packages) (p : ℕ) (need : Text) (set : List ℕ) → IsAscending set → ((k : ℕ) → has set k ≡ meets_at packages p k need) → set ≡ matching packages p need
is_matching same packages p need set ascends members =
    same set (matching packages p need) ascends (matching-ascends packages p need) (λ k. members k ∙ sym (has-matching packages p need k))
