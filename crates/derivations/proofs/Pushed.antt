-- One more in a list, and one more line of a derivation.
use Rattle.std.proofs.Common.{◌≡◌, ℕ, zero, suc, List, [], ◌∷◌, ◌++◌, length, refl, sym, ap, subst, append_assoc}
use Rattle.std.proofs.lemmas.List.{append-nil}
use Rattle.std.proofs.lemmas.Option.{none-some}
use Rattle.std.specs.Prelude.{Some, slice_get}
use Rattle.registry.specs.Registry.{Packages}
use Rattle.registry.specs.Requests.{Wanted}
use Rattle.derivations.specs.Facts.{Terms}
use Rattle.derivations.specs.Derivations.{conclusions, AreDerivedBy, IsDerivedBy, IsFact, Yields, last_conclusion}
use Rattle.derivations.specs.Lines.{Cause, Line}
use Rattle.derivations.specs.declared.facts.Cause.TheVariants as cause

pub get-left : {A : Type 0} (xs ys : List A) (i : ℕ) (x : A) → slice_get xs i ≡ Some x → slice_get (xs ++ ys) i ≡ Some x
get-left [] ys i x h = absurd (none-some x h)
get-left (z ∷ xs) ys zero x h = h
get-left (z ∷ xs) ys (suc i) x h = get-left xs ys i x h

pub get-last : {A : Type 0} (xs : List A) (y : A) → slice_get (xs ++ y ∷ []) (length xs) ≡ Some y
get-last [] y = refl
get-last (x ∷ xs) y = get-last xs y

pub length-conclusions : (lines : List Line) → length (conclusions lines) ≡ length lines
length-conclusions [] = refl
length-conclusions (line ∷ rest) = ap suc (length-conclusions rest)

pub conclusions-push : (lines : List Line) (line : Line) → conclusions (lines ++ line ∷ []) ≡ conclusions lines ++ line.conclusion ∷ []
conclusions-push [] line = refl
conclusions-push (x ∷ rest) line = ap (λ l. x.conclusion ∷ l) (conclusions-push rest line)

pub last-push : (lines : List Line) (line : Line) → last_conclusion (lines ++ line ∷ []) ≡ Some line.conclusion
last-push [] line = refl
last-push (x ∷ []) line = refl
last-push (x ∷ y ∷ rest) line = last-push (y ∷ rest) line

pub AreDerivedBy-push : (gives : List Terms → Cause → Terms → Type 0) (earlier : List Terms) (lines : List Line) (line : Line) → AreDerivedBy gives earlier lines
    → IsDerivedBy (gives (earlier ++ conclusions lines)) line → AreDerivedBy gives earlier (lines ++ line ∷ [])
AreDerivedBy-push gives earlier [] line h is = (subst (λ e. IsDerivedBy (gives e) line) (append-nil earlier) is, tt)
AreDerivedBy-push gives earlier (x ∷ rest) line h is =
    (h.0, AreDerivedBy-push gives (earlier ++ x.conclusion ∷ []) rest line h.1 (subst (λ e. IsDerivedBy (gives e) line) (sym (append_assoc earlier (x.conclusion ∷ []) (conclusions rest))) is))

pub gives_fact : (packages : Packages) (wanted : Wanted) (earlier : List Terms) (c : Cause) (terms : Terms) → IsFact packages wanted c terms → Yields packages wanted earlier c terms
gives_fact packages wanted earlier (cause.Line n) terms h = absurd h
gives_fact packages wanted earlier (cause.Premise p) terms h = h
gives_fact packages wanted earlier (cause.Need i) terms h = h
gives_fact packages wanted earlier (cause.NotAllowed p versions) terms h = h
gives_fact packages wanted earlier cause.Root terms h = h
