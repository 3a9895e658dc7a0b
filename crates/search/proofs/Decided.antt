-- What is decided, and what is left to decide.
use Rattle.std.proofs.Common.{◌≡◌, ◌<◌, ◌≤◌, ◌+◌, ◌^◌, ◌∙◌, ℕ, refl, sym, ap, subst, arith, Bool, true, false, true≢false, not, ◌&&◌, ◌||◌, List, [], ◌∷◌, ◌++◌, inl, inr, ◌⊎◌, nat_eq, nat_le, if◌then◌else◌}
use Rattle.std.proofs.lemmas.Bool.{cases_Bool, and_parts, or_parts, eqb-true, eq-eqb}
use Rattle.std.proofs.lemmas.Option.{none-some}
use Rattle.std.specs.Prelude.{Option, None, Some, IfSome, is_some}
use Rattle.std.specs.Option.{option_or}
use Rattle.terms.specs.Terms.{true_of}
use Rattle.terms.specs.declared.term.Term.{Term}
use Rattle.terms.specs.declared.term.Term.TheVariants.{In, NotIn}
use Rattle.search.specs.declared.assignment.Assignment.{Assignment}
use Rattle.search.specs.declared.assignment.Why.{Why}
use Rattle.search.specs.declared.assignment.Why.TheVariants.{Decided, Derived}
use Rattle.search.specs.Assignments.{says, one_if, is_decision, decided_by, decided, is_decided, decisions, upto, is_positive, has_positive_derivation, AreAssignments, DecidedOnce, IsExact, IsPartial}
use Rattle.search.specs.Rank.{count_below}
use Rattle.search.proofs.Counting.{count-bound, count-one_more, count-same, count-zero}
use Rattle.search.proofs.Saying.{says-push_own, says-push_other, says-upto, LevelsFrom-upto, LevelsFrom-push}

some_or : (x y : Option ℕ) → is_some (option_or x y) ≡ (is_some x || is_some y)
some_or None y = refl
some_or (Some k) y = refl

or_assoc : (x y z : Option ℕ) → option_or x (option_or y z) ≡ option_or (option_or x y) z
or_assoc None y z = refl
or_assoc (Some k) y z = refl

or_none : (x : Option ℕ) → option_or x None ≡ x
or_none None = refl
or_none (Some k) = refl

pub decided-append : (xs ys : List Assignment) (p : ℕ) → decided (xs ++ ys) p ≡ option_or (decided xs p) (decided ys p)
decided-append [] ys p = refl
decided-append (a ∷ xs) ys p = rw (decided-append xs ys p) (or_assoc (if nat_eq a.pkg p then decided_by a.why else None) (decided xs p) (decided ys p))

pub decided-push : (made : List Assignment) (a : Assignment) (p : ℕ) → decided (made ++ a ∷ []) p ≡ option_or (decided made p) (if nat_eq a.pkg p then decided_by a.why else None)
decided-push made a p = decided-append made (a ∷ []) p ∙ ap (option_or (decided made p)) (or_none (if nat_eq a.pkg p then decided_by a.why else None))

is_decided-push : (made : List Assignment) (a : Assignment) (p : ℕ) → is_decided (made ++ a ∷ []) p ≡ (is_decided made p || is_some (if nat_eq a.pkg p then decided_by a.why else None))
is_decided-push made a p = ap is_some (decided-push made a p) ∙ some_or (decided made p) (if nat_eq a.pkg p then decided_by a.why else None)

is_decided-cons : (a : Assignment) (made : List Assignment) (p : ℕ) → is_decided (a ∷ made) p ≡ (is_some (if nat_eq a.pkg p then decided_by a.why else None) || is_decided made p)
is_decided-cons a made p = some_or (if nat_eq a.pkg p then decided_by a.why else None) (decided made p)

-- a decision decides its package
decides : (a : Assignment) (p : ℕ) → is_decision a ≡ true → a.pkg ≡ p → is_some (if nat_eq a.pkg p then decided_by a.why else None) ≡ true
decides a p d same = rw (eq-eqb a.pkg p same) d

-- an assignment on another package, and a derivation, decide nothing of a package
decides_not : (a : Assignment) (p : ℕ) → (is_decision a ≡ true → a.pkg ≡ p → ⊥) → is_some (if nat_eq a.pkg p then decided_by a.why else None) ≡ false
decides_not a p off = elim (cases_Bool (nat_eq a.pkg p)) [
  | inl e ↦ rw e (elim (cases_Bool (is_decision a)) [ inl d ↦ absurd (off d (eqb-true a.pkg p e)) | inr n ↦ n ])
  | inr e ↦ rw e refl
]

-- ---- going back

is_decided-upto : (b p : ℕ) (made : List Assignment) → is_decided made p ≡ false → is_decided (upto b made) p ≡ false
is_decided-upto b p [] h = refl
is_decided-upto b p (a ∷ made) h =
    let parts = or_parts (is_some (if nat_eq a.pkg p then decided_by a.why else None)) (is_decided made p) (sym (is_decided-cons a made p) ∙ h) in
    elim (cases_Bool (nat_le a.level b)) [
      | inl e ↦ rw e (is_decided-cons a (upto b made) p ∙ rw (parts.0, is_decided-upto b p made parts.1) refl)
      | inr e ↦ rw e (is_decided-upto b p made parts.1)
    ]

DecidedOnce-upto : (b : ℕ) (made : List Assignment) → DecidedOnce made → DecidedOnce (upto b made)
DecidedOnce-upto b [] h = tt
DecidedOnce-upto b (a ∷ made) h = elim (cases_Bool (nat_le a.level b)) [
  | inl e ↦ rw e (λ d. is_decided-upto b a.pkg made (h.0 d), DecidedOnce-upto b made h.1)
  | inr e ↦ rw e (DecidedOnce-upto b made h.1)
]

AreAssignments-upto : (b : ℕ) (made : List Assignment) → AreAssignments made → AreAssignments (upto b made)
AreAssignments-upto b [] h = tt
AreAssignments-upto b (a ∷ made) h = elim (cases_Bool (nat_le a.level b)) [
  | inl e ↦ rw e (h.0, h.1, AreAssignments-upto b made h.2)
  | inr e ↦ rw e (AreAssignments-upto b made h.2)
]

pub IsPartial-upto : (b : ℕ) (made : List Assignment) → IsPartial made → IsPartial (upto b made)
IsPartial-upto b made h = record {
  assignments = AreAssignments-upto b made h.assignments;
  levels = LevelsFrom-upto b 0 made h.levels;
  once = DecidedOnce-upto b made h.once;
  possible = λ p. ((h.possible p).0, says-upto b made h.levels p (h.possible p).0 (h.possible p).1);
}

-- ---- one more

DecidedOnce-push : (made : List Assignment) (x : Assignment) → DecidedOnce made → (is_decision x ≡ true → is_decided made x.pkg ≡ false) → DecidedOnce (made ++ x ∷ [])
DecidedOnce-push [] x h new = (λ d. refl, tt)
DecidedOnce-push (a ∷ made) x h new = (
  λ d. is_decided-push made x a.pkg ∙ rw (h.0 d, decides_not x a.pkg (λ e same. true≢false (sym (decides a x.pkg d (sym same)) ∙ (parts e).0))) refl,
  DecidedOnce-push made x h.1 (λ e. (parts e).1),
)
  where
    parts : is_decision x ≡ true → (is_some (if nat_eq a.pkg x.pkg then decided_by a.why else None) ≡ false) × (is_decided made x.pkg ≡ false)
    parts e = or_parts (is_some (if nat_eq a.pkg x.pkg then decided_by a.why else None)) (is_decided made x.pkg) (sym (is_decided-cons a made x.pkg) ∙ new e)

AreAssignments-push : (made : List Assignment) (x : Assignment) → AreAssignments made → x.pkg < 2 ^ 32 → IsExact x.why x.term → AreAssignments (made ++ x ∷ [])
AreAssignments-push [] x h small exact = (small, exact, tt)
AreAssignments-push (a ∷ made) x h small exact = (h.0, h.1, AreAssignments-push made x h.2 small exact)

pub IsPartial-push : (made : List Assignment) (x : Assignment) → IsPartial made → x.level ≡ decisions made + one_if (is_decision x) → x.pkg < 2 ^ 32 → IsExact x.why x.term
    → (is_decision x ≡ true → is_decided made x.pkg ≡ false) → (c : Option ℕ) × (says made x.pkg c ≡ true) × (true_of x.term c ≡ true) → IsPartial (made ++ x ∷ [])
IsPartial-push made x h level small exact new w = record {
  assignments = AreAssignments-push made x h.assignments small exact;
  levels = LevelsFrom-push 0 made x h.levels (omega (arith, level));
  once = DecidedOnce-push made x h.once new;
  possible = λ p. elim (cases_Bool (nat_eq x.pkg p)) [
    | inl e ↦
        let same : x.pkg ≡ p = eqb-true x.pkg p e in
        let there : says made p w.0 ≡ true = subst (λ q. says made q w.0 ≡ true) same w.1 in
        (w.0, says-push_own made x p w.0 same ∙ rw (there, w.2) refl)
    | inr e ↦
        let apart : x.pkg ≡ p → ⊥ = λ same. true≢false (sym (eq-eqb x.pkg p same) ∙ e) in
        ((h.possible p).0, says-push_other made x p (h.possible p).0 apart ∙ (h.possible p).1)
  ];
}

-- ---- a decision leaves one choice

is_only : (k : ℕ) (c : Option ℕ) → true_of (In (k ∷ [])) c ≡ true → c ≡ Some k
is_only k None h = absurd (true≢false (sym h))
is_only k (Some j) h = elim (cases_Bool (nat_eq k j)) [
  | inl e ↦ ap Some (sym (eqb-true k j e))
  | inr e ↦ absurd (true≢false (sym (rw e at h)))
]

own_only : (why : Why) (term : Term) (k : ℕ) (c : Option ℕ) → IsExact why term → decided_by why ≡ Some k → true_of term c ≡ true → c ≡ Some k
own_only (Decided ordinal) term k c exact e h = is_only ordinal c (subst (λ t. true_of t c ≡ true) exact h) ∙ e
own_only (Derived cause) term k c exact e h = absurd (none-some k e)

or_cases : (x y : Option ℕ) (k : ℕ) → option_or x y ≡ Some k → (x ≡ Some k) ⊎ (y ≡ Some k)
or_cases None y k e = inr e
or_cases (Some j) y k e = inl e

pub decided_only : (made : List Assignment) (p k : ℕ) (c : Option ℕ) → AreAssignments made → decided made p ≡ Some k → says made p c ≡ true → c ≡ Some k
decided_only [] p k c h e said = absurd (none-some k e)
decided_only (a ∷ made) p k c h e said =
    let parts = and_parts (if nat_eq a.pkg p then true_of a.term c else true) (says made p c) said in
    elim (or_cases (if nat_eq a.pkg p then decided_by a.why else None) (decided made p) k e) [
      | inl here ↦ elim (cases_Bool (nat_eq a.pkg p)) [
        | inl t ↦ own_only a.why a.term k c h.1 (rw t at here) (rw t at parts.0)
        | inr f ↦ absurd (none-some k (rw f at here))
      ]
      | inr later ↦ decided_only made p k c h.2 later parts.1
    ]

pub decided_if : (made : List Assignment) (p : ℕ) (found : Option ℕ) → AreAssignments made → found ≡ decided made p → IfSome found (λ k. (c : Option ℕ) → says made p c ≡ true → c ≡ Some k)
decided_if made p None h e = tt
decided_if made p (Some k) h e = λ c said. decided_only made p k c h (sym e) said

-- ---- as many decisions as decided packages, so at most as many as there are package numbers

counted : (n : ℕ) (made : List Assignment) → AreAssignments made → DecidedOnce made → n ≡ 2 ^ 32 → count_below (is_decided made) n ≡ decisions made
counted n [] all once e = omega (arith, count-zero n)
counted n (a ∷ made) all once e = elim (cases_Bool (is_decision a)) [
  | inl d ↦
      let here : is_decided (a ∷ made) a.pkg ≡ true = is_decided-cons a made a.pkg ∙ rw (decides a a.pkg d refl) refl in
      let one = count-one_more (is_decided made) (is_decided (a ∷ made)) n a.pkg (omega (arith, e, all.0)) (once.0 d) here
      (λ j apart. sym (is_decided-cons a made j ∙ rw (decides_not a j (λ _ same. apart (sym same))) refl)) in
      let more : decisions (a ∷ made) ≡ 1 + decisions made = rw d refl in
      omega (arith, one, counted n made all.2 once.1 e, more)
  | inr d ↦
      count-same (is_decided (a ∷ made)) (is_decided made) n (λ j lt. is_decided-cons a made j ∙ rw (decides_not a j (λ is same. true≢false (sym is ∙ d))) refl)
      ∙ counted n made all.2 once.1 e ∙ rw d (omega arith)
]

pub decisions-bound : (made : List Assignment) → IsPartial made → decisions made ≤ 2 ^ 32
decisions-bound made h = bound (2 ^ 32) made (counted (2 ^ 32) made h.assignments h.once refl)
  where
    bound : (n : ℕ) (made : List Assignment) → count_below (is_decided made) n ≡ decisions made → decisions made ≤ n
    bound n made e = omega (arith, e, count-bound (is_decided made) n)

-- a package that is not decided leaves room for one decision more
pub decisions-room : (made : List Assignment) (p : ℕ) → IsPartial made → p < 2 ^ 32 → is_decided made p ≡ false → decisions made + 1 ≤ 2 ^ 32
decisions-room made p h small off =
    let x : Assignment = record { pkg = p; term = In (0 ∷ []); level = 0; why = Decided 0 } in
    bound (2 ^ 32) (made ++ x ∷ []) (counted (2 ^ 32) (made ++ x ∷ []) (AreAssignments-push made x h.assignments small refl) (DecidedOnce-push made x h.once (λ _. off)) refl) (decisions-push made x refl)
  where
    decisions-push : (made : List Assignment) (x : Assignment) → is_decision x ≡ true → decisions (made ++ x ∷ []) ≡ decisions made + 1
    decisions-push [] x e = rw e (omega arith)
    decisions-push (a ∷ made) x e = omega (arith, decisions-push made x e)

    bound : (n : ℕ) (new : List Assignment) → count_below (is_decided new) n ≡ decisions new → decisions new ≡ decisions made + 1 → decisions made + 1 ≤ n
    bound n new e more = omega (arith, e, more, count-bound (is_decided new) n)

-- ---- positive derivations

positive_or : (t : Term) → true_of t None ≡ not (is_positive t)
positive_or (In set) = refl
positive_or (NotIn set) = refl

not_both : (x y p : Bool) → x ≡ not p → (p || not y) ≡ not (x && y)
not_both x true true e = rw e refl
not_both x true false e = rw e refl
not_both x false true e = rw e refl
not_both x false false e = rw e refl

-- a package without a decision has a positive derivation exactly where the assignments say that it is selected
pub positive-says : (made : List Assignment) (p : ℕ) → is_decided made p ≡ false → has_positive_derivation made p ≡ not (says made p None)
positive-says [] p h = refl
positive-says (a ∷ made) p h =
    let parts = or_parts (is_some (if nat_eq a.pkg p then decided_by a.why else None)) (is_decided made p) (sym (is_decided-cons a made p) ∙ h) in
    elim (cases_Bool (nat_eq a.pkg p)) [
      | inl e ↦
          let derived : is_decision a ≡ false = rw e at parts.0 in
          rw (e, derived, positive-says made p parts.1) (not_both (true_of a.term None) (says made p None) (is_positive a.term) (positive_or a.term))
      | inr e ↦ rw (e, positive-says made p parts.1) refl
    ]

-- ---- what is said with one more

-- what a decision and a derivation say with what was said before
pub said-decided : (made : List Assignment) (a : Assignment) (k : ℕ) (said : Term) → said ≡ In (k ∷ []) → a.term ≡ In (k ∷ []) → says made a.pkg (Some k) ≡ true
    → (c : Option ℕ) → true_of said c ≡ says (made ++ a ∷ []) a.pkg c
said-decided made a k said is_said is_term within c =
    ap (λ t. true_of t c) (is_said ∙ sym is_term) ∙ sym (says-push_own made a a.pkg c refl ∙ narrows (says made a.pkg c) (true_of a.term c)
    (λ t. subst (λ d. says made a.pkg d ≡ true) (sym (is_only k c (sym (ap (λ u. true_of u c) is_term) ∙ t))) within))
  where
    narrows : (x y : Bool) → (y ≡ true → x ≡ true) → (x && y) ≡ y
    narrows true y h = refl
    narrows false true h = h refl
    narrows false false h = refl

pub said-derived : (made : List Assignment) (a : Assignment) (before said : Term) → ((c : Option ℕ) → true_of before c ≡ says made a.pkg c)
    → ((c : Option ℕ) → true_of said c ≡ (true_of before c && true_of a.term c)) → (c : Option ℕ) → true_of said c ≡ says (made ++ a ∷ []) a.pkg c
said-derived made a before said is_before is_said c =
    is_said c ∙ ap (λ b. b && true_of a.term c) (is_before c) ∙ sym (says-push_own made a a.pkg c refl)

-- a decision's term is true of its ordinal
pub says_only : (k : ℕ) → true_of (In (k ∷ [])) (Some k) ≡ true
says_only k = rw (eq-eqb k k refl) refl
