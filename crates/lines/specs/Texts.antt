-- What a writer takes of a text.
use Rattle.std.specs.Prelude.{◌≡◌, ℕ, List, ◌++◌, Option, Result, MatchResult}
use Rattle.std.specs.Io.KnownBytes.{Appends}
use Rattle.lines.specs.declared.outbox.TheConstants.{OUTBOX_ROOM}

-- front stands at the beginning of the text
abbrev pub IsBeginning : List ℕ → List ℕ → Type 0
IsBeginning front text = (rest : List ℕ) × (front ++ rest ≡ text)

-- `Ok`: all of the text was written; `Err`: a beginning of it
abbrev pub Writes : {E : Type 0} → Option (List ℕ) → Option (List ℕ) → Result Unit E → List ℕ → Type 0
Writes old new r text = (written : List ℕ) × Appends old new written
    × MatchResult r (λ _. written ≡ text) (λ _. IsBeginning written text)

-- A text was put behind what waited. `Ok`: what was written, and what waits now, are what waited and the text;
-- `Err`: a beginning of these was written.
abbrev pub Puts : {E : Type 0} → Option (List ℕ) → Option (List ℕ) → List ℕ → List ℕ → Result Unit E → List ℕ → Type 0
Puts old new before after r text = (written : List ℕ) × Appends old new written
    × MatchResult r (λ _. written ++ after ≡ before ++ text) (λ _. IsBeginning written (before ++ text))

-- how many bytes may wait
abbrev pub outbox_room : ℕ
outbox_room = OUTBOX_ROOM
