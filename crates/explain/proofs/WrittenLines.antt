-- What was written of lines, each ended by a line feed.
use Rattle.std.proofs.Common.{◌≡◌, ℕ, zero, suc, List, [], ◌∷◌, ◌++◌, take, map, refl, sym, ap, subst, ◌∙◌, Option, Some}
use Rattle.std.specs.List.{slice_get}
use Rattle.std.specs.Io.KnownBytes.{Appends}
use Rattle.std.proofs.KnownBytes.{Appends-trans}
use Rattle.std.proofs.lemmas.List.{append_assoc}
use Rattle.lines.specs.Texts.{IsBeginning}
use Rattle.versions.specs.Words.{Text}
use Rattle.explain.specs.Explanations.{text_of}

-- a line and its end
abbrev ended : Text → Text
ended line = line ++ 10 ∷ []

-- what is written before the line at this place, that line, and what is still to be written
text-split : {A : Type 0} (text : A → Text) (xs : List A) (i : ℕ) (x : A) → slice_get xs i ≡ Some x
    → (rest : Text) × (text_of (map text xs) ≡ (text_of (map text (take i xs)) ++ ended (text x)) ++ rest)
text-split text [] i x here = absurd (cc)
text-split text (y ∷ xs) zero x here = let same : y ≡ x = cc in (text_of (map text xs), rw same refl)
text-split text (y ∷ xs) (suc i) x here =
    let later = text-split text xs i x here in (
      later.0,
      ap (λ (l : Text). ended (text y) ++ l) later.1 ∙ simp append_assoc,
    )

-- a beginning of a text in the middle
beginning-within : (before front text more : Text) → IsBeginning front text → IsBeginning (before ++ front) ((before ++ text) ++ more)
beginning-within before front text more (rest, is) = (
  rest ++ more,
  append_assoc before front (rest ++ more) ∙ ap (λ l. before ++ l) (sym (append_assoc front rest more) ∙ ap (λ l. l ++ more) is) ∙ sym (append_assoc before text more),
)

-- what was written where the write of a line failed
pub writes_line_fails : {A : Type 0} (text : A → Text) (a b c : Option Text) (xs : List A) (i : ℕ) (x : A) (written : Text) → slice_get xs i ≡ Some x
    → Appends a b (text_of (map text (take i xs))) → Appends b c written → IsBeginning written (ended (text x))
    → (all : Text) × Appends a c all × IsBeginning all (text_of (map text xs))
writes_line_fails text a b c xs i x written at before here front =
    let split = text-split text xs i x at in (
      text_of (map text (take i xs)) ++ written,
      Appends-trans a b c _ _ before here,
      subst (IsBeginning (text_of (map text (take i xs)) ++ written)) (sym split.1)
          (beginning-within (text_of (map text (take i xs))) written (ended (text x)) split.0 front),
    )
