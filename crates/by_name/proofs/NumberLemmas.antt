-- Names and the numbers that they stand for.
use Rattle.std.proofs.Common.{◌≡◌, ◌∙◌, ℕ, zero, suc, ◌+◌, add-one, List, [], ◌∷◌, ◌++◌, take, Option, None, Some, refl, sym, ap, subst}
use Rattle.std.specs.Prelude.{option_map}
use Rattle.std.specs.Option.{option_and_then}
use Rattle.std.specs.List.{slice_get}
use Rattle.versions.specs.Words.{Text}
use Rattle.terms.specs.Incompats.{IsIncompat}
use Rattle.terms.specs.declared.term.Term.{Term}
use Rattle.registry.specs.Registry.{Packages}
use Rattle.derivations.specs.Facts.{Terms}
use Rattle.derivations.specs.Lines.{Line}
use Rattle.derivations.specs.Derivations.{AreIncompats}
use Rattle.by_name.specs.Named.{AllHaveNames, HasName, HaveNames, IsNumbered, LineHasNames, number_in, numbered_line, numbered_lines, numbered_terms}
use Rattle.by_name.specs.NamedLines.{NamedLine}

same_lines : (one two : List Line) → Some one ≡ Some two → one ≡ two
same_lines one two e = cc

-- names stand for one derivation at most
pub one_numbering : (packages : Packages) (named : List NamedLine) (one two : List Line) → IsNumbered packages named one → IsNumbered packages named two → one ≡ two
one_numbering packages named one two first second = same_lines one two (sym first.same ∙ second.same)

-- one more of a list
pub take_one : {A : Type 0} (xs : List A) (i : ℕ) (x : A) → slice_get xs i ≡ Some x → take (i + 1) xs ≡ take i xs ++ x ∷ []
take_one xs i x here = rw add-one (next xs i x here)
  where
    next : {A : Type 0} (xs : List A) (i : ℕ) (x : A) → slice_get xs i ≡ Some x → take (suc i) xs ≡ take i xs ++ x ∷ []
    next [] i x here = absurd (cc)
    next (y ∷ xs) zero x here = let same : y ≡ x = cc in rw same refl
    next (y ∷ xs) (suc i) x here = ap (λ l. y ∷ l) (next xs i x here)

-- ---- a list of what was found for each

-- what was found for the first, and for the rest
pub record FirstAndRest (A B : Type 0) (f : A → B) (o : Option A) (r : Option (List B)) (all : List B) : Type 0 where
  pub first : A
  pub more : List B
  pub own : o ≡ Some first
  pub others : r ≡ Some more
  pub whole : f first ∷ more ≡ all

apart : {A B : Type 0} (f : A → B) (o : Option A) (r : Option (List B)) (all : List B) → option_and_then (λ (a : A). option_map (λ (bs : List B). f a ∷ bs) r) o ≡ Some all
    → FirstAndRest A B f o r all
apart f None r all e = absurd (cc)
apart f (Some a) None all e = absurd (cc)
apart f (Some a) (Some bs) all e = record { first = a; more = bs; own = refl; others = refl; whole = cc }

together : {A B : Type 0} (f : A → B) (o : Option A) (r : Option (List B)) (a : A) (bs : List B) → o ≡ Some a → r ≡ Some bs
    → option_and_then (λ (x : A). option_map (λ (ys : List B). f x ∷ ys) r) o ≡ Some (f a ∷ bs)
together f o r a bs own others = rw (own, others) refl

none_then : {A B : Type 0} (f : A → B) (o : Option A) → option_and_then (λ (a : A). option_map (λ (bs : List B). f a ∷ bs) None) o ≡ None
none_then f None = refl
none_then f (Some a) = refl

-- ---- terms

-- terms of which one has no number have none
pub terms_none : (packages : Packages) (terms : List (Option Text × Term)) (i : ℕ) (t : Option Text × Term) → slice_get terms i ≡ Some t → number_in packages t.0 ≡ None
    → numbered_terms packages terms ≡ None
terms_none packages [] i t here none = absurd (cc)
terms_none packages (x ∷ rest) zero t here none =
    let same : t ≡ x = cc in
    subst (λ (y : Option Text × Term). numbered_terms packages (y ∷ rest) ≡ None) same
    (ap (option_and_then (λ (p : ℕ). option_map (λ (terms : Terms). (p, t.1) ∷ terms) (numbered_terms packages rest))) none)
terms_none packages (x ∷ rest) (suc i) t here none =
    ap (λ (r : Option Terms). option_and_then (λ (p : ℕ). option_map (λ (terms : Terms). (p, x.1) ∷ terms) r) (number_in packages x.0)) (terms_none packages rest i t here none)
    ∙ none_then {B = ℕ × Term} (λ p. (p, x.1)) (number_in packages x.0)

-- terms that are numbered, and one more
pub terms_more : (packages : Packages) (named : List (Option Text × Term)) (numbered : Terms) (t : Option Text × Term) (p : ℕ) → numbered_terms packages named ≡ Some numbered
    → number_in packages t.0 ≡ Some p → numbered_terms packages (named ++ t ∷ []) ≡ Some (numbered ++ (p, t.1) ∷ [])
terms_more packages [] numbered t p all one =
    let none : [] ≡ numbered = cc in
    subst (λ (ls : Terms). numbered_terms packages (t ∷ []) ≡ Some (ls ++ (p, t.1) ∷ [])) none
    (together {B = ℕ × Term} (λ q. (q, t.1)) (number_in packages t.0) (Some []) p [] one refl)
terms_more packages (x ∷ rest) numbered t p all one =
    let parts = apart {B = ℕ × Term} (λ q. (q, x.1)) (number_in packages x.0) (numbered_terms packages rest) numbered all in
    let later = terms_more packages rest parts.more t p parts.others one in
    subst (λ (ls : Terms). numbered_terms packages (x ∷ (rest ++ t ∷ [])) ≡ Some (ls ++ (p, t.1) ∷ [])) parts.whole
    (together {B = ℕ × Term} (λ q. (q, x.1)) (number_in packages x.0) (numbered_terms packages (rest ++ t ∷ [])) parts.first (parts.more ++ (p, t.1) ∷ []) parts.own later)

-- ---- lines

-- lines of which one stands for none stand for none
pub lines_none : (packages : Packages) (lines : List NamedLine) (i : ℕ) (line : NamedLine) (numbered : List Line) → slice_get lines i ≡ Some line
    → ((x : Line) → (numbered_line packages line ≡ Some x) × IsIncompat x.conclusion → ⊥) → IsNumbered packages lines numbered → ⊥
lines_none packages [] i line numbered here none is = absurd (cc)
lines_none packages (l ∷ rest) zero line numbered here none is =
    let parts = apart {B = Line} (λ x. x) (numbered_line packages l) (numbered_lines packages rest) numbered is.same in
    let lawful = subst (λ (ls : List Line). AreIncompats ls) (sym parts.whole) is.lawful in
    let same : l ≡ line = cc in
    none parts.first (subst (λ (n : NamedLine). numbered_line packages n ≡ Some parts.first) same parts.own, lawful.0)
lines_none packages (l ∷ rest) (suc i) line numbered here none is =
    let parts = apart {B = Line} (λ x. x) (numbered_line packages l) (numbered_lines packages rest) numbered is.same in
    let lawful = subst (λ (ls : List Line). AreIncompats ls) (sym parts.whole) is.lawful in
    lines_none packages rest i line parts.more here none (record { same = parts.others; lawful = lawful.1 })

-- lines that are numbered, and one more
pub lines_more : (packages : Packages) (named : List NamedLine) (numbered : List Line) (n : NamedLine) (x : Line) → IsNumbered packages named numbered
    → numbered_line packages n ≡ Some x → IsIncompat x.conclusion → IsNumbered packages (named ++ n ∷ []) (numbered ++ x ∷ [])
lines_more packages [] numbered n x before own lawful =
    let none : [] ≡ numbered = same_lines [] numbered before.same in
    subst (λ (ls : List Line). IsNumbered packages (n ∷ []) (ls ++ x ∷ [])) none
    (record { same = together {B = Line} (λ y. y) (numbered_line packages n) (Some []) x [] own refl; lawful = (lawful, tt) })
lines_more packages (l ∷ rest) numbered n x before own lawful =
    let parts = apart {B = Line} (λ y. y) (numbered_line packages l) (numbered_lines packages rest) numbered before.same in
    let old = subst (λ (ls : List Line). AreIncompats ls) (sym parts.whole) before.lawful in
    let later = lines_more packages rest parts.more n x (record { same = parts.others; lawful = old.1 }) own lawful in
    subst (λ (ls : List Line). IsNumbered packages (l ∷ (rest ++ n ∷ [])) (ls ++ x ∷ [])) parts.whole
    (record {
      same = together {B = Line} (λ y. y) (numbered_line packages l) (numbered_lines packages (rest ++ n ∷ [])) parts.first (parts.more ++ x ∷ []) parts.own later.same;
      lawful = (old.0, later.lawful);
    })

-- ---- what has a name

pub term_has_name : (packages : Packages) (terms : Terms) (i : ℕ) (t : ℕ × Term) → slice_get terms i ≡ Some t → HaveNames packages terms → HasName packages t.0
term_has_name packages [] i t here all = absurd (cc)
term_has_name packages (x ∷ rest) zero t here all = let same : x ≡ t = cc in subst (λ (y : ℕ × Term). HasName packages y.0) same all.0
term_has_name packages (x ∷ rest) (suc i) t here all = term_has_name packages rest i t here all.1

pub line_has_names : (packages : Packages) (lines : List Line) (i : ℕ) (line : Line) → slice_get lines i ≡ Some line → AllHaveNames packages lines → LineHasNames packages line
line_has_names packages [] i line here all = absurd (cc)
line_has_names packages (x ∷ rest) zero line here all = let same : x ≡ line = cc in subst (λ (l : Line). LineHasNames packages l) same all.0
line_has_names packages (x ∷ rest) (suc i) line here all = line_has_names packages rest i line here all.1
