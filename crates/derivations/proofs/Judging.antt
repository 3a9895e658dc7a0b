-- What the checker finds of lines, whatever a cause gives.
use Rattle.std.proofs.Common.{◌≡◌, ◌↔◌, ◌<◌, ◌≤◌, ◌-◌, ◌+◌, ◌∙◌, ℕ, zero, suc, List, [], ◌∷◌, ◌++◌, length, take, get_or, refl, sym, ap, subst, arith, Bool, true, false, true≢false, append_assoc}
use Rattle.std.proofs.lemmas.List.{append-nil}
use Rattle.std.proofs.lemmas.Option.{none-some, same_Some, slice_get_within, slice_get_read}
use Rattle.std.specs.Prelude.{Some, slice_get, IsTrue}
use Rattle.derivations.specs.Facts.{Terms}
use Rattle.derivations.specs.Derivations.{AreDerivedBy, IsConclusion, IsDerivedBy, conclusions}
use Rattle.derivations.proofs.Pushed.{AreDerivedBy-push, length-conclusions}
use Rattle.derivations.specs.Lines.{Cause, Line}

slice_get-conclusions : (lines : List Line) (i : ℕ) (line : Line) → slice_get lines i ≡ Some line → slice_get (conclusions lines) i ≡ Some line.conclusion
slice_get-conclusions [] i line h = absurd (none-some line h)
slice_get-conclusions (x ∷ rest) zero line h = ap (λ (l : Line). Some l.conclusion) (same_Some x line h)
slice_get-conclusions (x ∷ rest) (suc i) line h = slice_get-conclusions rest i line h

pub line_gives : (lines : List Line) (number : ℕ) (line : Line) → (number ≡ 0 → ⊥) → number ≤ length lines → line ≡ get_or lines (number - 1) line
    → IsConclusion (conclusions lines) number line.conclusion
line_gives lines number line some le is =
    (number - 1, omega (arith, some), slice_get-conclusions lines (number - 1) line (slice_get_read lines (length lines) (number - 1) line refl (omega (arith, some, le)) is))

pub no_line : (lines : List Line) (number : ℕ) (terms : Terms) → length lines < number → IsConclusion (conclusions lines) number terms → ⊥
no_line lines number terms lt h = let within = slice_get_within (conclusions lines) h.0 terms h.2 in omega (arith, within, length-conclusions lines, h.1, lt)

-- ---- all lines

AreDerivedBy-at : (gives : List Terms → Cause → Terms → Type 0) (earlier : List Terms) (lines : List Line) (i : ℕ) (line : Line) → AreDerivedBy gives earlier lines → slice_get lines i ≡ Some line
    → IsDerivedBy (gives (earlier ++ conclusions (take i lines))) line
AreDerivedBy-at gives earlier [] i line h at = absurd (none-some line at)
AreDerivedBy-at gives earlier (x ∷ rest) zero line h at =
    subst (λ e. IsDerivedBy (gives e) line) (sym (append-nil earlier)) (subst (λ l. IsDerivedBy (gives earlier) l) (same_Some x line at) h.0)
AreDerivedBy-at gives earlier (x ∷ rest) (suc i) line h at =
    subst (λ e. IsDerivedBy (gives e) line) (append_assoc earlier (x.conclusion ∷ []) (conclusions (take i rest)))
    (AreDerivedBy-at gives (earlier ++ x.conclusion ∷ []) rest i line h.1 at)

take-one : (lines : List Line) (i : ℕ) (line : Line) → slice_get lines i ≡ Some line → take (suc i) lines ≡ take i lines ++ line ∷ []
take-one [] i line at = absurd (none-some line at)
take-one (x ∷ rest) zero line at = ap (λ l. l ∷ []) (same_Some x line at)
take-one (x ∷ rest) (suc i) line at = ap (λ l. x ∷ l) (take-one rest i line at)

pub one_more : (gives : List Terms → Cause → Terms → Type 0) (lines earlier : List Line) (i : ℕ) (line : Line) (told : Bool) → i < length lines → line ≡ get_or lines i line → earlier ≡ take i lines
    → AreDerivedBy gives [] (take i lines) → told ≡ true → IsTrue told ↔ IsDerivedBy (gives (conclusions earlier)) line → AreDerivedBy gives [] (take (i + 1) lines)
one_more gives lines earlier i line told lt is before h y e =
    let at = slice_get_read lines (length lines) i line refl lt is in
    let count : suc i ≡ i + 1 = omega arith in
    subst (λ n. AreDerivedBy gives [] (take n lines)) count
    (subst (λ ls. AreDerivedBy gives [] ls) (sym (take-one lines i line at))
    (AreDerivedBy-push gives [] (take i lines) line h (subst (λ (b : List Line). IsDerivedBy (gives (conclusions b)) line) before (e.0 y))))

pub one_wrong : (gives : List Terms → Cause → Terms → Type 0) (lines earlier : List Line) (i : ℕ) (line : Line) (told : Bool) → i < length lines → line ≡ get_or lines i line → earlier ≡ take i lines
    → told ≡ false → IsTrue told ↔ IsDerivedBy (gives (conclusions earlier)) line → AreDerivedBy gives [] lines → ⊥
one_wrong gives lines earlier i line told lt is before n e all =
    true≢false (sym (e.1 (subst (λ (b : List Line). IsDerivedBy (gives (conclusions b)) line) (sym before)
    (AreDerivedBy-at gives [] lines i line all (slice_get_read lines (length lines) i line refl lt is)))) ∙ n)
