-- Room for releases, and the sets that it was made in.
use Rattle.std.proofs.Common.{◌≡◌, ◌∙◌, ◌<◌, ◌≤◌, ◌++◌, ◌∷◌, [], ℕ, zero, suc, List, length, get_or, take, drop, arith, ap, subst, sym}
use Rattle.std.specs.Prelude.{Err, Ok, OnOk, Result}
use Rattle.std.proofs.Math.Seq.{take-append_seam}
use Rattle.terms.specs.Growing.{Growing}
use Rattle.versions.specs.Words.{Text}
use Rattle.releases.specs.Kept.{AreMatching, IsMatching, least_room}

-- each set has room
abbrev pub HaveRoom : List Growing → Type 0
HaveRoom sets = (i : ℕ) (d : Growing) → i < length sets → 0 < (get_or sets i d).room

-- the least room is there where all room is there
pub least_room-start : (room : ℕ) (sets : List Growing) → least_room room sets ≤ room
least_room-start room [] = omega arith
least_room-start room (set ∷ rest) = omega (arith, least_room-start room rest)

pub least_room-each : (room : ℕ) (sets : List Growing) → 0 < least_room room sets → HaveRoom sets
least_room-each room [] pos i d lt = absurd (omega arith)
least_room-each room (set ∷ rest) pos zero d lt = omega (arith, pos)
least_room-each room (set ∷ rest) pos (suc i) d lt = least_room-each room rest (omega (arith, pos)) i d (omega (arith, lt))

pub least_room-all : (room : ℕ) (sets : List Growing) → 0 < room → HaveRoom sets → 0 < least_room room sets
least_room-all room [] pos h = pos
least_room-all room (set ∷ rest) pos h =
    let first : 0 < set.room = h 0 set (omega arith) in
    let others : 0 < least_room room rest = least_room-all room rest pos (λ i d lt. h (suc i) d (omega (arith, lt))) in
    omega (arith, first, others)

-- what is written back to the whole of a vector
pub whole : (n : ℕ) (now was : List Growing) → length now ≡ n → take n (now ++ drop (length now) was) ≡ now
whole n now was e = ap (λ m. take m (now ++ drop (length now) was)) (sym e) ∙ take-append_seam now (drop (length now) was)

-- sets with the same ordinals are the same matching sets
pub AreMatching-same : (versions needs : List Text) (sets sets' : List Growing) → AreMatching versions needs sets → length sets' ≡ length sets
    → ((i : ℕ) (d : Growing) → (get_or sets' i d).ordinals ≡ (get_or sets i d).ordinals) → AreMatching versions needs sets'
AreMatching-same versions needs sets sets' m e same = record {
  paired = e ∙ m.paired;
  exact = λ i need set lt. let P : List ℕ → Type 0 = λ l. IsMatching versions (get_or needs i need) l in subst P (sym (same i set)) (m.exact i need set (omega (arith, lt, e)));
}

-- what follows, where the call succeeded
pub then-on-ok : {X E : Type 0} (result : Result X E) (P Q : Type 0) → (P → Q) → OnOk result P → OnOk result Q
then-on-ok (Ok x) P Q f h = f h
then-on-ok (Err e) P Q f h = tt
