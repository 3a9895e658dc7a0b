-- The ordinals of the versions that meet a requirement, as a list.
use Rattle.std.proofs.Common.{◌≡◌, ◌∙◌, ◌<◌, ◌≤◌, ◌+◌, inl, inr, ℕ, zero, suc, List, [], ◌∷◌, refl, sym, subst, ap, arith, true, false, rules, nat_eq}
use Rattle.std.specs.Prelude.{IfOk, Result, Ok, Err, slice_get}
use Rattle.std.specs.declared.alloc.AllocError.{AllocError}
use Rattle.std.proofs.lemmas.Bool.{cases_Bool, ne_eqb}
use Rattle.terms.specs.Sets.{AscendingFrom, IsAscending, SameSet, has}
use Rattle.versions.specs.Words.{Text, meets}
use Rattle.releases.specs.Kept.{IsMatching}
use Rattle.releases.specs.Releases.{meeting, meeting_from, meets_at, meets_some}

from_lower : (low high : ℕ) (xs : List ℕ) → low ≤ high → AscendingFrom high xs → AscendingFrom low xs
from_lower low high [] le h = tt
from_lower low high (x ∷ xs) le h = (omega (arith, h.0), h.1)

absent : (low k : ℕ) (xs : List ℕ) → AscendingFrom low xs → k < low → has xs k ≡ false
absent low k [] h lt = refl
absent low k (x ∷ xs) h lt =
    let apart : nat_eq x k ≡ false = ne_eqb x k (λ e. omega (arith, e, h.0)) in
    let more : k < suc x = omega (arith, h.0) in
    rw apart (absent (suc x) k xs h.1 more)

ascends : (n : ℕ) (versions : List Text) (need : Text) → AscendingFrom n (meeting_from n versions need)
ascends n [] need = tt
ascends n (v ∷ rest) need = elim (cases_Bool (meets need v)) [
  | inl e ↦ rw e (omega arith, ascends (suc n) rest need)
  | inr e ↦ rw e (from_lower n (suc n) (meeting_from (suc n) rest need) (omega arith) (ascends (suc n) rest need))
]

-- a version is among them exactly where it meets the requirement
members : (n : ℕ) (versions : List Text) (need : Text) (k : ℕ) → has (meeting_from n versions need) (n + k) ≡ meets_some need (slice_get versions k)
members n [] need k = refl
members n (v ∷ rest) need zero = elim (cases_Bool (meets need v)) [
  | inl e ↦ let same : nat_eq n (n + 0) ≡ true = search rules in rw (e, same) refl
  | inr e ↦ rw e (absent (suc n) (n + 0) (meeting_from (suc n) rest need) (ascends (suc n) rest need) (omega arith))
]
members n (v ∷ rest) need (suc k) =
    let place : suc n + k ≡ n + suc k = omega arith in
    let later : has (meeting_from (suc n) rest need) (n + suc k) ≡ meets_some need (slice_get rest k) =
    subst (λ j. has (meeting_from (suc n) rest need) j ≡ meets_some need (slice_get rest k)) place (members (suc n) rest need k) in
    let apart : nat_eq n (n + suc k) ≡ false = ne_eqb n (n + suc k) (λ e. omega (arith, e)) in
    elim (cases_Bool (meets need v)) [ inl e ↦ rw (e, apart) later | inr e ↦ rw e later ]

pub has-meeting : (versions : List Text) (need : Text) (k : ℕ) → has (meeting versions need) k ≡ meets_at versions need k
unfolding meeting
has-meeting versions need k =
    let place : 0 + k ≡ k = omega arith in
    subst (λ j. has (meeting_from 0 versions need) j ≡ meets_at versions need k) place (members 0 versions need k)

meeting-ascends : (versions : List Text) (need : Text) → IsAscending (meeting versions need)
unfolding meeting
meeting-ascends versions need = ascends 0 versions need

-- an ascending set of the versions that meet a requirement is that list
is_meeting : SameSet → (versions : List Text) (need : Text) (set : List ℕ) → IsAscending set → IsMatching versions need set → set ≡ meeting versions need
is_meeting same versions need set up exact = same set (meeting versions need) up (meeting-ascends versions need) (λ k. exact k ∙ sym (has-meeting versions need k))

-- the same of a copy, where there was memory for it
pub copied-meeting : SameSet → (versions : List Text) (need : Text) (set : List ℕ) → IsMatching versions need set → (copy : Result (List ℕ) AllocError)
    → IfOk copy (λ c. c ≡ set) → IfOk copy IsAscending → IfOk copy (λ c. c ≡ meeting versions need)
copied-meeting same versions need set exact (Ok c) is up = is_meeting same versions need c up (λ k. ap (λ l. has l k) is ∙ exact k)
copied-meeting same versions need set exact (Err e) is up = tt
