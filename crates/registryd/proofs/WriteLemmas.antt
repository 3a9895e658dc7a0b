-- Texts that are written one behind another.
use Rattle.std.proofs.Common.{◌≡◌, ℕ, List, ◌++◌, Option, Result, Ok, Err, sym, ap, subst, ◌∙◌, append_assoc}
use Rattle.std.specs.Prelude.{MatchResult}
use Rattle.std.specs.Io.KnownBytes.{Appends}
use Rattle.std.proofs.KnownBytes.{Appends-trans}
use Rattle.lines.specs.Texts.{IsBeginning, Writes}

-- a write fails within the first of two texts
pub stops_at : {F : Type 0} (old new : Option (List ℕ)) (first rest all : List ℕ) (f : F) (r : Result Unit F) → first ++ rest ≡ all → r ≡ Err f
    → ((w : List ℕ) × Appends old new w × IsBeginning w first) → Writes old new r all
stops_at {F} old new first rest all f r whole is (w, appends, (more, front)) =
    let here : Writes {E = F} old new (Err f) all = (w, appends, (more ++ rest, sym (append_assoc w more rest) ∙ ap (λ (l : List ℕ). l ++ rest) front ∙ whole)) in
    subst (λ (s : Result Unit F). Writes old new s all) (sym is) here

-- a text is written, and a beginning of another behind it
pub begins_second : (old mid new : Option (List ℕ)) (first second : List ℕ) → ((w : List ℕ) × Appends old mid w × (w ≡ first)) → ((w : List ℕ) × Appends mid new w × IsBeginning w second)
    → (w : List ℕ) × Appends old new w × IsBeginning w (first ++ second)
begins_second old mid new first second (one, here, is) (two, there, (more, front)) = (
  first ++ two,
  subst (λ (l : List ℕ). Appends old new (l ++ two)) is (Appends-trans old mid new one two here there),
  (more, append_assoc first two more ∙ ap (λ (l : List ℕ). first ++ l) front),
)

-- two texts are written
pub writes_both : (old mid new : Option (List ℕ)) (first second : List ℕ) → ((w : List ℕ) × Appends old mid w × (w ≡ first)) → ((w : List ℕ) × Appends mid new w × (w ≡ second))
    → (w : List ℕ) × Appends old new w × (w ≡ first ++ second)
writes_both old mid new first second (one, here, is) (two, there, same) = (
  first ++ two,
  subst (λ (l : List ℕ). Appends old new (l ++ two)) is (Appends-trans old mid new one two here there),
  ap (λ (l : List ℕ). first ++ l) same,
)

-- a text is written, and the last one comes to this
pub ends_with : {F : Type 0} (old mid new : Option (List ℕ)) (first second all : List ℕ) (r : Result Unit F) → first ++ second ≡ all → ((w : List ℕ) × Appends old mid w × (w ≡ first)) → Writes mid new r second
    → Writes old new r all
ends_with {F} old mid new first second all (Ok u) whole one two = let both = writes_both old mid new first second one two in (both.0, both.1, both.2 ∙ whole)
ends_with {F} old mid new first second all (Err f) whole one two =
    let both = begins_second old mid new first second one two in (both.0, both.1, (both.2.0, both.2.1 ∙ whole))
