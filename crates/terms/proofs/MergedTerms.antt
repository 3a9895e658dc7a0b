-- Two incompatibilities are resolved: what is kept so far, and what is left of each.
use Rattle.std.proofs.Common.{◌≡◌, ◌<◌, ◌≤◌, ◌+◌, ◌∙◌, inl, inr, ℕ, suc, List, [], ◌∷◌, ◌++◌, length, refl, sym, ap, subst, arith, Bool, true, false, ◌&&◌, true≢false, nat_eq, min, if◌then◌else◌}
use Rattle.std.specs.Prelude.{Option, Some, None, IfSome}
use Rattle.std.proofs.lemmas.Bool.{cases_Bool, eqb-true, ne_eqb}
use Rattle.terms.proofs.Ascending.{nat_eq-itself, either_min}
use Rattle.terms.specs.Incompats.{AreTerms, Follows, IsIncompat, OrderedFrom, joined, true_at}
use Rattle.terms.specs.Terms.{true_of, CanBeFalse, IsTerm}
use Rattle.terms.specs.Fronts.{least_package, front_term, behind_package, true_where}
use Rattle.terms.specs.declared.term.Term.{Term}

-- the packages are below low
abbrev pub AllBefore : ℕ → List (ℕ × Term) → Type 0
AllBefore low [] = Unit {0}
AllBefore low (t ∷ rest) = (t.0 < low) × AllBefore low rest

pub true_at-absent : (low pkg : ℕ) (terms : List (ℕ × Term)) (choice : Option ℕ) → OrderedFrom low terms → pkg < low → true_at terms pkg choice ≡ true
true_at-absent low pkg [] choice h lt = refl
true_at-absent low pkg (t ∷ rest) choice h lt =
    let apart : nat_eq t.0 pkg ≡ false = ne_eqb t.0 pkg (λ e. omega (arith, e, h.0)) in
    rw apart (true_at-absent (suc t.0) pkg rest choice h.2 (omega (arith, h.0)))

true_at-past : (low pkg : ℕ) (terms : List (ℕ × Term)) (choice : Option ℕ) → AllBefore low terms → low ≤ pkg → true_at terms pkg choice ≡ true
true_at-past low pkg [] choice h le = refl
true_at-past low pkg (t ∷ rest) choice h le =
    let apart : nat_eq t.0 pkg ≡ false = ne_eqb t.0 pkg (λ e. omega (arith, e, h.0)) in
    rw apart (true_at-past low pkg rest choice h.1 le)

-- a term that is pushed on another package
true_at-push-other : (pkg other : ℕ) (term : Term) (terms : List (ℕ × Term)) (choice : Option ℕ) → nat_eq pkg other ≡ false
    → true_at (terms ++ (pkg, term) ∷ []) other choice ≡ true_at terms other choice
true_at-push-other pkg other term [] choice e = rw e refl
true_at-push-other pkg other term (t ∷ rest) choice e =
    ap (λ b. if nat_eq t.0 other then true_of t.1 choice else b) (true_at-push-other pkg other term rest choice e)

true_at-push-same : (low pkg : ℕ) (term : Term) (terms : List (ℕ × Term)) (choice : Option ℕ) → AllBefore low terms → low ≤ pkg
    → true_at (terms ++ (pkg, term) ∷ []) pkg choice ≡ true_of term choice
true_at-push-same low pkg term [] choice h le = rw (nat_eq-itself pkg) refl
true_at-push-same low pkg term (t ∷ rest) choice h le =
    let apart : nat_eq t.0 pkg ≡ false = ne_eqb t.0 pkg (λ e. omega (arith, e, h.0)) in
    rw apart (true_at-push-same low pkg term rest choice h.1 le)

OrderedFrom-push : (low top pkg : ℕ) (term : Term) (terms : List (ℕ × Term)) → OrderedFrom low terms → AllBefore top terms → top ≤ pkg → low ≤ pkg → CanBeFalse term
    → OrderedFrom low (terms ++ (pkg, term) ∷ [])
OrderedFrom-push low top pkg term [] h ends le from can = (from, can, tt)
OrderedFrom-push low top pkg term (t ∷ rest) h ends le from can =
    (h.0, h.1, OrderedFrom-push (suc t.0) top pkg term rest h.2 ends.1 le (omega (arith, ends.0)) can)

AllBefore-push : (low high pkg : ℕ) (term : Term) (terms : List (ℕ × Term)) → AllBefore low terms → low ≤ high → pkg < high → AllBefore high (terms ++ (pkg, term) ∷ [])
AllBefore-push low high pkg term [] h le lt = (lt, tt)
AllBefore-push low high pkg term (t ∷ rest) h le lt = (omega (arith, h.0), AllBefore-push low high pkg term rest h.1 le lt)

AllBefore-more : (low high : ℕ) (terms : List (ℕ × Term)) → AllBefore low terms → low ≤ high → AllBefore high terms
AllBefore-more low high [] h le = tt
AllBefore-more low high (t ∷ rest) h le = (omega (arith, h.0), AllBefore-more low high rest h.1 le)

least-low : (low : ℕ) (left right : List (ℕ × Term)) → 0 < length left + length right → OrderedFrom low left → OrderedFrom low right → low ≤ least_package left right
least-low low [] [] some l r = absurd (omega arith)
least-low low [] (b ∷ others) some l r = r.0
least-low low (a ∷ rest) [] some l r = l.0
least-low low (a ∷ rest) (b ∷ others) some l r = omega (arith, l.0, r.0)

least-left : (low : ℕ) (left right : List (ℕ × Term)) → OrderedFrom low left → OrderedFrom (least_package left right) left
least-left low [] right h = tt
least-left low (a ∷ rest) [] h = (omega arith, h.1, h.2)
least-left low (a ∷ rest) (b ∷ others) h = (omega arith, h.1, h.2)

least-right : (low : ℕ) (left right : List (ℕ × Term)) → OrderedFrom low right → OrderedFrom (least_package left right) right
least-right low left [] h = tt
least-right low [] (b ∷ others) h = (omega arith, h.1, h.2)
least-right low (a ∷ rest) (b ∷ others) h = (omega arith, h.1, h.2)

OrderedFrom-behind : (pkg : ℕ) (terms : List (ℕ × Term)) → OrderedFrom pkg terms → OrderedFrom (suc pkg) (behind_package terms pkg)
OrderedFrom-behind pkg [] h = tt
OrderedFrom-behind pkg (t ∷ rest) h = elim (cases_Bool (nat_eq t.0 pkg)) [
  | inl e ↦ let same : t.0 ≡ pkg = eqb-true t.0 pkg e in rw e (subst (λ y. OrderedFrom (suc y) rest) same h.2)
  | inr e ↦
      let apart : t.0 ≡ pkg → ⊥ = λ same. true≢false (sym (nat_eq-itself pkg) ∙ ap (λ y. nat_eq y pkg) (sym same) ∙ e) in
      let more : suc pkg ≤ t.0 = omega (arith, h.0, apart) in
      rw e (more, h.1, h.2)
]

true_at-front : (pkg : ℕ) (terms : List (ℕ × Term)) (choice : Option ℕ) → OrderedFrom pkg terms → true_at terms pkg choice ≡ true_where (front_term terms pkg) choice
true_at-front pkg [] choice h = refl
true_at-front pkg (t ∷ rest) choice h = elim (cases_Bool (nat_eq t.0 pkg)) [
  | inl e ↦ rw e refl
  | inr e ↦ rw e (true_at-absent (suc t.0) pkg rest choice h.2 (omega (arith, h.0)))
]

true_at-behind : (pkg other : ℕ) (terms : List (ℕ × Term)) (choice : Option ℕ) → nat_eq pkg other ≡ false → true_at (behind_package terms pkg) other choice ≡ true_at terms other choice
true_at-behind pkg other [] choice e = refl
true_at-behind pkg other (t ∷ rest) choice e = elim (cases_Bool (nat_eq t.0 pkg)) [
  | inl same ↦
      let equal : t.0 ≡ pkg = eqb-true t.0 pkg same in
      let apart : nat_eq t.0 other ≡ false = ap (λ y. nat_eq y other) equal ∙ e in
      rw (same, apart) refl
  | inr no_match ↦ rw no_match refl
]

joined-true : (b : Bool) → joined b true true ≡ true
joined-true true = refl
joined-true false = refl

and-true : (b : Bool) → (b && true) ≡ b
and-true true = refl
and-true false = refl

-- `kept` has the terms that follow, but for what is left of each
pub record IsResolving (pivot : ℕ) (first second kept left right : List (ℕ × Term)) : Type 0 where
  pub low : ℕ
  pub ordered : IsIncompat kept
  pub before : AllBefore low kept
  pub terms : AreTerms kept
  pub on_left : OrderedFrom low left
  pub on_right : OrderedFrom low right
  pub follows : (pkg : ℕ) (choice : Option ℕ) →
      (true_at kept pkg choice && joined (nat_eq pkg pivot) (true_at left pkg choice) (true_at right pkg choice))
      ≡ joined (nat_eq pkg pivot) (true_at first pkg choice) (true_at second pkg choice)

pub begin : (pivot : ℕ) (first second : List (ℕ × Term)) → IsIncompat first → IsIncompat second → IsResolving pivot first second [] first second
begin pivot first second f s = record { low = 0; ordered = tt; before = tt; terms = tt; on_left = f; on_right = s; follows = λ pkg choice. refl }

-- the list with a term on this package at its end, where there is one
abbrev pub pushed : List (ℕ × Term) → ℕ → Option Term → List (ℕ × Term)
pushed kept pkg None = kept
pushed kept pkg (Some term) = kept ++ (pkg, term) ∷ []

pushed-other : (kept : List (ℕ × Term)) (pkg other : ℕ) (o : Option Term) (choice : Option ℕ) → nat_eq pkg other ≡ false
    → true_at (pushed kept pkg o) other choice ≡ true_at kept other choice
pushed-other kept pkg other None choice e = refl
pushed-other kept pkg other (Some term) choice e = true_at-push-other pkg other term kept choice e

pushed-same : (low : ℕ) (kept : List (ℕ × Term)) (pkg : ℕ) (o : Option Term) (choice : Option ℕ) → AllBefore low kept → low ≤ pkg
    → true_at (pushed kept pkg o) pkg choice ≡ true_where o choice
pushed-same low kept pkg None choice h le = true_at-past low pkg kept choice h le
pushed-same low kept pkg (Some term) choice h le = true_at-push-same low pkg term kept choice h le

pushed-ordered : (low : ℕ) (kept : List (ℕ × Term)) (pkg : ℕ) (o : Option Term) → IsIncompat kept → AllBefore low kept → low ≤ pkg → IfSome o CanBeFalse → IsIncompat (pushed kept pkg o)
pushed-ordered low kept pkg None h before le can = h
pushed-ordered low kept pkg (Some term) h before le can = OrderedFrom-push 0 low pkg term kept h before le (omega arith) can

pushed-before : (low : ℕ) (kept : List (ℕ × Term)) (pkg : ℕ) (o : Option Term) → AllBefore low kept → low ≤ pkg → AllBefore (suc pkg) (pushed kept pkg o)
pushed-before low kept pkg None before le = AllBefore-more low (suc pkg) kept before (omega arith)
pushed-before low kept pkg (Some term) before le = AllBefore-push low (suc pkg) pkg term kept before (omega arith) (omega arith)

AreTerms-push : (kept : List (ℕ × Term)) (pkg : ℕ) (term : Term) → AreTerms kept → IsTerm term → AreTerms (kept ++ (pkg, term) ∷ [])
AreTerms-push [] pkg term h t = (t, tt)
AreTerms-push (x ∷ rest) pkg term h t = (h.0, AreTerms-push rest pkg term h.1 t)

pushed-terms : (kept : List (ℕ × Term)) (pkg : ℕ) (o : Option Term) → AreTerms kept → IfSome o IsTerm → AreTerms (pushed kept pkg o)
pushed-terms kept pkg None h t = h
pushed-terms kept pkg (Some term) h t = AreTerms-push kept pkg term h t

module _ (pivot : ℕ) (first second kept left right : List (ℕ × Term)) (m : IsResolving pivot first second kept left right) (some : 0 < length left + length right) where
  pub step : (o : Option Term) → IfSome o CanBeFalse → IfSome o IsTerm
      → ((choice : Option ℕ) → true_where o choice ≡ joined (nat_eq (least_package left right) pivot) (true_where (front_term left (least_package left right)) choice) (true_where (front_term right (least_package left right)) choice))
      → IsResolving pivot first second (pushed kept (least_package left right) o) (behind_package left (least_package left right)) (behind_package right (least_package left right))
  step o can is_term exact =
      let pkg = least_package left right in
      let le : m.low ≤ pkg = least-low m.low left right some m.on_left m.on_right in
      let on_left = least-left m.low left right m.on_left in
      let on_right = least-right m.low left right m.on_right in
      let after_left = OrderedFrom-behind pkg left on_left in
      let after_right = OrderedFrom-behind pkg right on_right in
      record {
        low = suc pkg;
        ordered = pushed-ordered m.low kept pkg o m.ordered m.before le can;
        before = pushed-before m.low kept pkg o m.before le;
        terms = pushed-terms kept pkg o m.terms is_term;
        on_left = after_left;
        on_right = after_right;
        follows = λ other choice. elim (cases_Bool (nat_eq pkg other)) [
          | inl e ↦
              let same : pkg ≡ other = eqb-true pkg other e in
              let gone_left : true_at (behind_package left pkg) pkg choice ≡ true = true_at-absent (suc pkg) pkg (behind_package left pkg) choice after_left (omega arith) in
              let gone_right : true_at (behind_package right pkg) pkg choice ≡ true = true_at-absent (suc pkg) pkg (behind_package right pkg) choice after_right (omega arith) in
              let past : true_at kept pkg choice ≡ true = true_at-past m.low pkg kept choice m.before le in
              subst (λ q. (true_at (pushed kept pkg o) q choice && joined (nat_eq q pivot) (true_at (behind_package left pkg) q choice) (true_at (behind_package right pkg) q choice))
              ≡ joined (nat_eq q pivot) (true_at first q choice) (true_at second q choice)) same
              (rw (gone_left, gone_right, joined-true (nat_eq pkg pivot), pushed-same m.low kept pkg o choice m.before le, and-true (true_where o choice))
              (exact choice
              ∙ ap (λ b. joined (nat_eq pkg pivot) b (true_where (front_term right pkg) choice)) (sym (true_at-front pkg left choice on_left))
              ∙ ap (λ b. joined (nat_eq pkg pivot) (true_at left pkg choice) b) (sym (true_at-front pkg right choice on_right))
              ∙ ap (λ b. b && joined (nat_eq pkg pivot) (true_at left pkg choice) (true_at right pkg choice)) (sym past)
              ∙ m.follows pkg choice))
          | inr e ↦
              rw (pushed-other kept pkg other o choice e, true_at-behind pkg other left choice e, true_at-behind pkg other right choice e) (m.follows other choice)
        ];
      }

shorter : (pkg : ℕ) (terms : List (ℕ × Term)) → length (behind_package terms pkg) ≤ length terms
shorter pkg [] = omega arith
shorter pkg (t ∷ rest) = elim (cases_Bool (nat_eq t.0 pkg)) [ inl e ↦ rw e (omega arith) | inr e ↦ rw e (omega arith) ]

shorter-head : (pkg : ℕ) (t : ℕ × Term) (rest : List (ℕ × Term)) → t.0 ≡ pkg → length (behind_package (t ∷ rest) pkg) < length (t ∷ rest)
shorter-head pkg t rest same = let e : nat_eq t.0 pkg ≡ true = ap (λ y. nat_eq y pkg) same ∙ nat_eq-itself pkg in rw e (omega arith)

-- a turn takes a term away
pub falls : (left right : List (ℕ × Term)) → 0 < length left + length right
    → length (behind_package left (least_package left right)) + length (behind_package right (least_package left right)) < length left + length right
falls [] [] some = absurd (omega arith)
falls [] (b ∷ others) some = let less = shorter-head b.0 b others refl in omega (arith, less)
falls (a ∷ rest) [] some = let less = shorter-head a.0 a rest refl in omega (arith, less)
falls (a ∷ rest) (b ∷ others) some = elim (either_min a.0 b.0) [
  | inl e ↦ omega (arith, shorter-head (min a.0 b.0) a rest e, shorter (min a.0 b.0) (b ∷ others))
  | inr e ↦ omega (arith, shorter (min a.0 b.0) (a ∷ rest), shorter-head (min a.0 b.0) b others e)
]

-- one turn of the loop, by what its calls answer
pub turn : (pivot : ℕ) (first second kept left right : List (ℕ × Term)) → IsResolving pivot first second kept left right → 0 < length left + length right
    → (pkg : ℕ) (is_pivot : Bool) (a b o : Option Term) (kept' left' right' : List (ℕ × Term))
    → pkg ≡ least_package left right → is_pivot ≡ nat_eq pkg pivot → a ≡ front_term left pkg → b ≡ front_term right pkg
    → ((choice : Option ℕ) → true_where o choice ≡ joined is_pivot (true_where a choice) (true_where b choice)) → IfSome o CanBeFalse → IfSome o IsTerm
    → kept' ≡ pushed kept pkg o → left' ≡ behind_package left pkg → right' ≡ behind_package right pkg
    → IsResolving pivot first second kept' left' right'
turn pivot first second kept left right m some pkg is_pivot a b o kept' left' right' is_least is_is_pivot is_a is_b exact can is_term is_kept is_left is_right =
    let P : ℕ → Type 0 = λ p. IsResolving pivot first second (pushed kept p o) (behind_package left p) (behind_package right p) in
    let moved : IsResolving pivot first second (pushed kept pkg o) (behind_package left pkg) (behind_package right pkg) =
    subst P (sym is_least) (step pivot first second kept left right m some o can is_term (λ choice.
    exact choice
    ∙ ap (λ t. joined t (true_where a choice) (true_where b choice)) (is_is_pivot ∙ ap (λ p. nat_eq p pivot) is_least)
    ∙ ap (λ t. joined (nat_eq (least_package left right) pivot) (true_where t choice) (true_where b choice)) (is_a ∙ ap (front_term left) is_least)
    ∙ ap (λ t. joined (nat_eq (least_package left right) pivot) (true_where (front_term left (least_package left right)) choice) (true_where t choice)) (is_b ∙ ap (front_term right) is_least))) in
    rw (is_kept, is_left, is_right) moved

-- at the end
pub Follows-end : (pivot : ℕ) (first second kept : List (ℕ × Term)) → IsResolving pivot first second kept [] [] → Follows kept first second pivot
Follows-end pivot first second kept m pkg choice =
    sym (and-true (true_at kept pkg choice)) ∙ ap (λ b. true_at kept pkg choice && b) (sym (joined-true (nat_eq pkg pivot))) ∙ m.follows pkg choice
