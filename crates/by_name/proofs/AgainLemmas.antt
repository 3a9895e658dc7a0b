-- What was numbered is named as it was.
use Rattle.std.proofs.Common.{◌≡◌, ◌∙◌, ℕ, suc, ◌+◌, List, [], ◌∷◌, Bool, true, false, Option, None, Some, refl, sym, ap, subst, arith}
use Rattle.std.specs.Prelude.{option_map, unwrap_or, if◌then◌else◌}
use Rattle.std.specs.Option.{option_and_then}
use Rattle.std.specs.List.{slice_get}
use Rattle.std.specs.Cmp.Lexicographic.{same_text}
use Rattle.std.proofs.lemmas.Option.{same_Some}
use Rattle.versions.specs.Words.{Text}
use Rattle.terms.specs.declared.term.Term.{Term}
use Rattle.registry.specs.Registry.{Package, Packages, is_named, number_from, number_of, package_at}
use Rattle.derivations.specs.Facts.{Terms}
use Rattle.derivations.specs.Lines.{Cause, Line, Premise}
use Rattle.derivations.specs.declared.facts.Cause.TheVariants as cause
use Rattle.by_name.specs.Named.{IsNumbered, number_in, numbered_cause, numbered_line, numbered_lines, numbered_premise, numbered_terms}
use Rattle.by_name.specs.Naming.{name_at, name_or_none, named_cause, named_line, named_lines, named_terms}
use Rattle.by_name.specs.NamedLines.{NamedCause, NamedLine}

-- ---- names

record At (packages : Packages) (n : ℕ) (name : Text) (p : ℕ) : Type 0 where
  place : ℕ
  from : p ≡ n + place
  is : option_map (λ (pack : Package). pack.name) (slice_get packages place) ≡ Some name

found_by : (n : ℕ) (pack : Package) (rest : Packages) (name : Text) (p : ℕ) (b : Bool) → is_named name pack ≡ b → (number_from (suc n) rest name ≡ Some p → At rest (suc n) name p)
    → (if b then Some n else number_from (suc n) rest name) ≡ Some p → At (pack ∷ rest) n name p
found_by n pack rest name p true same more at = record { place = 0; from = omega (arith, same_Some n p at); is = ap Some (sym (same_text name pack.name (sym same))) }
found_by n pack rest name p false same more at = let later = more at in record { place = suc later.place; from = omega (arith, later.from); is = later.is }

found_from : (n : ℕ) (packages : Packages) (name : Text) (p : ℕ) → number_from n packages name ≡ Some p → At packages n name p
found_from n [] name p is = absurd (cc)
found_from n (pack ∷ rest) name p is = found_by n pack rest name p (is_named name pack) refl (found_from (suc n) rest name p) is

named_back : (packages : Packages) (name : Text) (p : ℕ) → number_of packages name ≡ Some p → name_at packages p ≡ Some name
unfolding number_of package_at
named_back packages name p is =
    let found = found_from 1 packages name p is in
    let at : p ≡ suc found.place = omega (arith, found.from) in
    subst (λ (q : ℕ). name_at packages q ≡ Some name) (sym at) found.is

whose_back : (packages : Packages) (name : Option Text) (p : ℕ) → number_in packages name ≡ Some p → name_at packages p ≡ name
unfolding package_at
whose_back packages None p is = let none : 0 ≡ p = cc in subst (λ (q : ℕ). name_at packages q ≡ None) none refl
whose_back packages (Some name) p is = named_back packages name p is

package_back : (packages : Packages) (name : Text) (p : ℕ) → number_of packages name ≡ Some p → name_or_none packages p ≡ name
package_back packages name p is = ap (λ (o : Option Text). unwrap_or o []) (named_back packages name p is)

-- ---- what was found for the first, and for the rest

first_of : {A B : Type 0} (f : A → Option B) (o : Option A) (b : B) → option_and_then f o ≡ Some b → (a : A) × (o ≡ Some a) × (f a ≡ Some b)
first_of f None b e = absurd (cc)
first_of f (Some a) b e = (a, refl, e)

mapped_of : {A B : Type 0} (f : A → B) (o : Option A) (b : B) → option_map f o ≡ Some b → (a : A) × (o ≡ Some a) × (f a ≡ b)
mapped_of f None b e = absurd (cc)
mapped_of f (Some a) b e = (a, refl, cc)

-- ---- lines

terms_back : (packages : Packages) (terms : List (Option Text × Term)) (numbered : Terms) → numbered_terms packages terms ≡ Some numbered → named_terms packages numbered ≡ terms
terms_back packages [] numbered is = let none : [] ≡ numbered = cc in subst (λ (ts : Terms). named_terms packages ts ≡ []) none refl
terms_back packages (t ∷ rest) numbered is =
    let one = first_of _ (number_in packages t.0) numbered is in
    let more = mapped_of _ (numbered_terms packages rest) numbered one.2 in
    subst (λ (ts : Terms). named_terms packages ts ≡ t ∷ rest) more.2
    (ap (λ (name : Option Text). (name, t.1) ∷ named_terms packages more.0) (whose_back packages t.0 one.0 one.1) ∙ ap (λ (ts : List (Option Text × Term)). t ∷ ts) (terms_back packages rest more.0 more.1))

cause_back : (packages : Packages) (c : NamedCause) (numbered : Cause) → numbered_cause packages c ≡ Some numbered → named_cause packages numbered ≡ c
cause_back packages (cause.Line n) numbered is = subst (λ (k : Cause). named_cause packages k ≡ cause.Line n) (same_Some _ _ is) refl
cause_back packages (cause.Premise premise) numbered is =
    let found = mapped_of _ (numbered_premise packages premise) numbered is in
    let one = first_of _ (number_of packages premise.package) found.0 found.1 in
    let two = mapped_of _ (number_in packages premise.target) found.0 one.2 in
    subst (λ (k : Cause). named_cause packages k ≡ cause.Premise premise) found.2
    (subst (λ (q : Premise). named_cause packages (cause.Premise q) ≡ cause.Premise premise) two.2
    (rw (package_back packages premise.package one.0 one.1, whose_back packages premise.target two.0 two.1) refl))
cause_back packages (cause.Need i) numbered is = subst (λ (k : Cause). named_cause packages k ≡ cause.Need i) (same_Some _ _ is) refl
cause_back packages (cause.NotAllowed name versions) numbered is =
    let found = mapped_of _ (number_of packages name) numbered is in
    subst (λ (k : Cause). named_cause packages k ≡ cause.NotAllowed name versions) found.2
    (ap (λ (n : Text). cause.NotAllowed n versions) (package_back packages name found.0 found.1))
cause_back packages cause.Root numbered is = subst (λ (k : Cause). named_cause packages k ≡ cause.Root) (same_Some _ _ is) refl

line_back : (packages : Packages) (line : NamedLine) (numbered : Line) → numbered_line packages line ≡ Some numbered → named_line packages numbered ≡ line
line_back packages line numbered is =
    let terms = first_of _ (numbered_terms packages line.conclusion) numbered is in
    let one = first_of _ (numbered_cause packages line.causes.0) numbered terms.2 in
    let two = first_of _ (numbered_cause packages line.causes.1) numbered one.2 in
    let pivot = mapped_of _ (number_in packages line.pivot) numbered two.2 in
    subst (λ (l : Line). named_line packages l ≡ line) pivot.2
    (rw (
      terms_back packages line.conclusion terms.0 terms.1,
      cause_back packages line.causes.0 one.0 one.1,
      cause_back packages line.causes.1 two.0 two.1,
      whose_back packages line.pivot pivot.0 pivot.1,
    ) refl)

lines_back : (packages : Packages) (lines : List NamedLine) (numbered : List Line) → numbered_lines packages lines ≡ Some numbered → named_lines packages numbered ≡ lines
lines_back packages [] numbered is = let none : [] ≡ numbered = cc in subst (λ (ls : List Line). named_lines packages ls ≡ []) none refl
lines_back packages (line ∷ rest) numbered is =
    let one = first_of _ (numbered_line packages line) numbered is in
    let more = mapped_of _ (numbered_lines packages rest) numbered one.2 in
    subst (λ (ls : List Line). named_lines packages ls ≡ line ∷ rest) more.2
    (ap (λ (l : NamedLine). l ∷ named_lines packages more.0) (line_back packages line one.0 one.1) ∙ ap (λ (ls : List NamedLine). line ∷ ls) (lines_back packages rest more.0 more.1))

pub named_again : (packages : Packages) (lines : List NamedLine) (numbered : List Line) → IsNumbered packages lines numbered → named_lines packages numbered ≡ lines
named_again packages lines numbered is = lines_back packages lines numbered is.same
