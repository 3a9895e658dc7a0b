-- The terms of an incompatibility that a loop has seen.
use Rattle.std.proofs.Common.{◌≡◌, ◌<◌, ◌≤◌, ◌+◌, ◌∙◌, ℕ, zero, suc, refl, sym, ap, arith, Bool, true, false, true≢false, List, [], ◌∷◌, length, take, get_or, inl, inr, nat_eq, add-one}
use Rattle.std.proofs.lemmas.Bool.{cases_Bool, cases_eq, eq-eqb, ne_eqb}
use Rattle.std.proofs.lemmas.Option.{slice_get_read, none-some, same_Some}
use Rattle.std.specs.Prelude.{Option, None, Some, slice_get, is_some}
use Rattle.terms.specs.Terms.{true_of, Implies, Excludes, Exception, Shared}
use Rattle.terms.specs.Incompats.{true_at, OrderedFrom, IsIncompat}
use Rattle.terms.specs.declared.term.Term.{Term}
use Rattle.search.specs.declared.assignment.Assignment.{Assignment}
use Rattle.search.specs.Assignments.{says}
use Rattle.search.specs.Satisfying.{Satisfied, AlmostSatisfied, IsNeither}

no_lower : (low : ℕ) (terms : List (ℕ × Term)) (i : ℕ) (x : ℕ × Term) → OrderedFrom low terms → slice_get terms i ≡ Some x → low ≤ x.0
no_lower low [] i x h e = absurd (none-some x e)
no_lower low (t ∷ rest) zero x h e = let same : t ≡ x = same_Some t x e in rw (← same) h.0
no_lower low (t ∷ rest) (suc i) x h e = let more = no_lower (suc t.0) rest i x h.2 e in omega (arith, more, h.0)

apart_from_head : (t x : ℕ × Term) (low i : ℕ) (rest : List (ℕ × Term)) → OrderedFrom low (t ∷ rest) → slice_get rest i ≡ Some x → nat_eq t.0 x.0 ≡ false
apart_from_head t x low i rest h e = ne_eqb t.0 x.0 (λ same. let more = no_lower (suc t.0) rest i x h.2 e in omega (arith, same, more))

-- the term on its own package: of all terms, with it seen, and before
pub at-own : (low i : ℕ) (terms : List (ℕ × Term)) (x : ℕ × Term) (c : Option ℕ) → OrderedFrom low terms → slice_get terms i ≡ Some x → true_at terms x.0 c ≡ true_of x.1 c
at-own low i [] x c h e = absurd (none-some x e)
at-own low zero (t ∷ rest) x c h e = let same : t ≡ x = same_Some t x e in rw (eq-eqb t.0 x.0 (ap (λ y. y.0) same)) (ap (λ y. true_of y.1 c) same)
at-own low (suc i) (t ∷ rest) x c h e = rw (apart_from_head t x low i rest h e) (at-own (suc t.0) i rest x c h.2 e)

pub at-own_seen : (low i : ℕ) (terms : List (ℕ × Term)) (x : ℕ × Term) (c : Option ℕ) → OrderedFrom low terms → slice_get terms i ≡ Some x → true_at (take (suc i) terms) x.0 c ≡ true_of x.1 c
at-own_seen low i [] x c h e = absurd (none-some x e)
at-own_seen low zero (t ∷ rest) x c h e = let same : t ≡ x = same_Some t x e in rw (eq-eqb t.0 x.0 (ap (λ y. y.0) same)) (ap (λ y. true_of y.1 c) same)
at-own_seen low (suc i) (t ∷ rest) x c h e = rw (apart_from_head t x low i rest h e) (at-own_seen (suc t.0) i rest x c h.2 e)

pub at-own_before : (low i : ℕ) (terms : List (ℕ × Term)) (x : ℕ × Term) (c : Option ℕ) → OrderedFrom low terms → slice_get terms i ≡ Some x → true_at (take i terms) x.0 c ≡ true
at-own_before low i [] x c h e = absurd (none-some x e)
at-own_before low zero (t ∷ rest) x c h e = refl
at-own_before low (suc i) (t ∷ rest) x c h e = rw (apart_from_head t x low i rest h e) (at-own_before (suc t.0) i rest x c h.2 e)

-- the terms on other packages stay as they were
pub at-other : (i : ℕ) (terms : List (ℕ × Term)) (x : ℕ × Term) (p : ℕ) (c : Option ℕ) → slice_get terms i ≡ Some x → (p ≡ x.0 → ⊥) → true_at (take (suc i) terms) p c ≡ true_at (take i terms) p c
at-other i [] x p c e apart = absurd (none-some x e)
at-other zero (t ∷ rest) x p c e apart =
    let same : t ≡ x = same_Some t x e in
    rw (ne_eqb t.0 p (λ h. apart (sym h ∙ ap (λ y. y.0) same))) refl
at-other (suc i) (t ∷ rest) x p c e apart = elim (cases_Bool (nat_eq t.0 p)) [
  | inl f ↦ rw f refl
  | inr f ↦ rw f (at-other i rest x p c e apart)
]

at-seen_false : (i : ℕ) (terms : List (ℕ × Term)) (p : ℕ) (c : Option ℕ) → true_at (take i terms) p c ≡ false → true_at terms p c ≡ false
at-seen_false zero terms p c h = absurd (true≢false h)
at-seen_false (suc i) [] p c h = h
at-seen_false (suc i) (t ∷ rest) p c h = elim (cases_Bool (nat_eq t.0 p)) [
  | inl f ↦ rw f (rw f at h)
  | inr f ↦ rw f (at-seen_false i rest p c (rw f at h))
]

-- how the terms that were seen stand to the assignments: which one is left out, if any
abbrev pub Leaves : List Assignment → List (ℕ × Term) → Option ℕ → Type 0
Leaves made terms None = Satisfied made terms
Leaves made terms (Some out) = AlmostSatisfied made terms out

-- ---- one turn

module _ (made : List Assignment) (terms : List (ℕ × Term)) (lawful : IsIncompat terms) (i : ℕ) (x : ℕ × Term) (at : slice_get terms i ≡ Some x)
    (f : Term) (is_said : (c : Option ℕ) → true_of f c ≡ says made x.0 c) where
  q_apart : (q : ℕ) → AlmostSatisfied made (take i terms) q → q ≡ x.0 → ⊥
  q_apart q h same =
      let c = h.can_be_false.0 in
      true≢false (sym (at-own_before 0 i terms x c lawful at) ∙ ap (λ r. true_at (take i terms) r c) (sym same) ∙ h.can_be_false.3)

  own : (p : ℕ) (c : Option ℕ) → p ≡ x.0 → true_at (take (suc i) terms) p c ≡ true_of x.1 c
  own p c same = ap (λ r. true_at (take (suc i) terms) r c) same ∙ at-own_seen 0 i terms x c lawful at

  said_true : (p : ℕ) (c : Option ℕ) → p ≡ x.0 → says made p c ≡ true → true_of f c ≡ true
  said_true p c same h = is_said c ∙ ap (λ r. says made r c) (sym same) ∙ h

  pub turn_implied : (out : Option ℕ) → Leaves made (take i terms) out → Implies f x.1 → Leaves made (take (suc i) terms) out
  turn_implied None h implied = λ p c says_so. elim (cases_eq p x.0) [
    | inl same ↦ own p c same ∙ implied c (said_true p c same says_so)
    | inr apart ↦ at-other i terms x p c at apart ∙ h p c says_so
  ]
  turn_implied (Some q) h implied = record {
    others = λ p c out says_so. elim (cases_eq p x.0) [
      | inl same ↦ own p c same ∙ implied c (said_true p c same says_so)
      | inr apart ↦ at-other i terms x p c at apart ∙ h.others p c out says_so
    ];
    can_be_false = (h.can_be_false.0, h.can_be_false.1, h.can_be_false.2, at-other i terms x q h.can_be_false.0 at (q_apart q h) ∙ h.can_be_false.3);
    can_be_true = (h.can_be_true.0, h.can_be_true.1, h.can_be_true.2, at-other i terms x q h.can_be_true.0 at (q_apart q h) ∙ h.can_be_true.3);
  }

  pub turn_left_out : Satisfied made (take i terms) → Exception f x.1 → Shared f x.1 → AlmostSatisfied made (take (suc i) terms) x.0
  turn_left_out h w v = record {
    others = λ p e apart says_so. at-other i terms x p e at apart ∙ h p e says_so;
    can_be_false = (w.choice, w.is_choice, sym (is_said w.choice) ∙ w.first_true, own x.0 w.choice refl ∙ w.second_false);
    can_be_true = (v.choice, v.is_choice, sym (is_said v.choice) ∙ v.first_true, own x.0 v.choice refl ∙ v.second_true);
  }

  pub turn_second : (q : ℕ) → AlmostSatisfied made (take i terms) q → Exception f x.1 → IsNeither made terms
  turn_second q h w =
      let e = w.choice in
      let c = h.can_be_false.0 in
      let q_false : true_at terms q c ≡ false = at-seen_false i terms q c h.can_be_false.3 in
      let x_said : says made x.0 e ≡ true = sym (is_said e) ∙ w.first_true in
      let x_false : true_at terms x.0 e ≡ false = at-own 0 i terms x e lawful at ∙ w.second_false in
      record {
        pkg = q;
        choice = c;
        said = h.can_be_false.2;
        false_there = q_false;
        not_almost = λ out but d d_said d_true. elim (cases_eq q out) [
          | inl same ↦ true≢false (sym (but x.0 e (λ there. q_apart q h (same ∙ sym there)) x_said) ∙ x_false)
          | inr apart ↦ true≢false (sym (but q c apart h.can_be_false.2) ∙ q_false)
        ];
      }

  pub turn_excluded : Excludes f x.1 → Exception f x.1 → IsNeither made terms
  turn_excluded excluded w =
      let e = w.choice in
      let x_said : says made x.0 e ≡ true = sym (is_said e) ∙ w.first_true in
      let x_false : true_at terms x.0 e ≡ false = at-own 0 i terms x e lawful at ∙ w.second_false in
      record {
        pkg = x.0;
        choice = e;
        said = x_said;
        false_there = x_false;
        not_almost = λ out but d d_said d_true. elim (cases_eq out x.0) [
          | inl same ↦
              let d_there : true_at terms x.0 d ≡ true = ap (λ r. true_at terms r d) (sym same) ∙ d_true in
              true≢false (sym d_there ∙ at-own 0 i terms x d lawful at ∙ excluded d (said_true out d same d_said))
          | inr apart ↦ true≢false (sym (but x.0 e (λ there. apart (sym there)) x_said) ∙ x_false)
        ];
      }

-- the same, as the loop reads the terms
module _ (made : List Assignment) (terms : List (ℕ × Term)) (lawful : IsIncompat terms) (i : ℕ) (x : ℕ × Term) (lt : i < length terms) (read : x ≡ get_or terms i x)
    (f : Term) (is_said : (c : Option ℕ) → true_of f c ≡ says made x.0 c) where
  here : slice_get terms i ≡ Some x
  here = slice_get_read terms (length terms) i x refl lt read

  pub seen_implied : (out now : Option ℕ) → Leaves made (take i terms) out → now ≡ out → Implies f x.1 → Leaves made (take (i + 1) terms) now
  seen_implied out now h same w = rw (same, add-one) (turn_implied made terms lawful i x here f is_said out h w)

  pub seen_excluded : Excludes f x.1 × Exception f x.1 → IsNeither made terms
  seen_excluded w = turn_excluded made terms lawful i x here f is_said w.0 w.1

  pub seen_left_out : (out now : Option ℕ) (some : Bool) → Leaves made (take i terms) out → some ≡ false → some ≡ is_some out → now ≡ Some x.0
      → Exception f x.1 × Shared f x.1 → Leaves made (take (i + 1) terms) now
  seen_left_out None now some h e e' same w = rw (same, add-one) (turn_left_out made terms lawful i x here f is_said h w.0 w.1)
  seen_left_out (Some q) now some h e e' same w = absurd (true≢false (sym e' ∙ e))

  pub seen_second : (out : Option ℕ) (some : Bool) → Leaves made (take i terms) out → some ≡ true → some ≡ is_some out
      → Exception f x.1 × Shared f x.1 → IsNeither made terms
  seen_second None some h e e' w = absurd (true≢false (sym e ∙ e'))
  seen_second (Some q) some h e e' w = turn_second made terms lawful i x here f is_said q h w.0
