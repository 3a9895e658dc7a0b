-- How far the assignments must go to satisfy terms.
use Rattle.std.proofs.Common.{◌≡◌, ◌<◌, ◌≤◌, ◌+◌, ◌-◌, ◌∙◌, ℕ, zero, suc, refl, sym, ap, subst, arith, true, true≢false, List, [], ◌∷◌, ◌++◌, length, take, get_or, max, inl, inr, add-one}
use Rattle.std.proofs.lemmas.Bool.{cases_lt, cases_eq}
use Rattle.std.proofs.lemmas.List.{take_all, take_more, take-take}
use Rattle.std.proofs.lemmas.Option.{slice_get_read, slice_get_within, get_or_from_slice_get, none-some, same_Some}
use Rattle.std.specs.Prelude.{Option, None, Some, slice_get}
use Rattle.terms.specs.Terms.{true_of, Exception, Implies}
use Rattle.terms.specs.Incompats.{true_at, OrderedFrom, IsIncompat}
use Rattle.terms.specs.declared.term.Term.{Term}
use Rattle.search.specs.declared.assignment.Assignment.{Assignment}
use Rattle.search.specs.Assignments.{says}
use Rattle.search.specs.Satisfying.{Satisfied, SatisfiedBut}
use Rattle.search.specs.Trail.{last_place, through, IsPlaceOn}
use Rattle.search.specs.Reach.{Holds, IsLeast, IsReach, IsShortestOn}
use Rattle.search.proofs.Saying.{says-shorter, says-push_other}
use Rattle.search.proofs.Places.{says-last}
use Rattle.search.proofs.TermsSeen.{at-own, at-own_seen, at-own_before, at-other}

-- one more assignment of a list
pub next : (made : List Assignment) (i : ℕ) (a : Assignment) → slice_get made i ≡ Some a → take (suc i) made ≡ take i made ++ a ∷ []
next made i a at = sym (rw add-one refl) ∙ take_more made i a (slice_get_within made i a at) ∙ ap (λ x. take i made ++ x ∷ []) (get_or_from_slice_get made i a a at)

-- ---- longer beginnings say more

Holds-longer : (made : List Assignment) (p : ℕ) (t : Term) (m n : ℕ) → m ≤ n → Holds (take m made) p t → Holds (take n made) p t
Holds-longer made p t m n le h c said = h c (says-shorter m n made p c le said)

Satisfied-longer : (made : List Assignment) (terms : List (ℕ × Term)) (m n : ℕ) → m ≤ n → Satisfied (take m made) terms → Satisfied (take n made) terms
Satisfied-longer made terms m n le h p c said = h p c (says-shorter m n made p c le said)

SatisfiedBut-longer : (made : List Assignment) (terms : List (ℕ × Term)) (out m n : ℕ) → m ≤ n → SatisfiedBut (take m made) terms out → SatisfiedBut (take n made) terms out
SatisfiedBut-longer made terms out m n le h p c apart said = h p c apart (says-shorter m n made p c le said)

-- ---- least numbers

Least-same : (P Q : ℕ → Type 0) (n : ℕ) → ((k : ℕ) → P k → Q k) → ((k : ℕ) → Q k → P k) → IsLeast P n → IsLeast Q n
Least-same P Q n to from h = (to n h.0, λ k lt q. h.1 k lt (from k q))

Least-both : (P Q : ℕ → Type 0) (m n : ℕ) → ((j k : ℕ) → j ≤ k → P j → P k) → ((j k : ℕ) → j ≤ k → Q j → Q k) → IsLeast P m → IsLeast Q n → IsLeast (λ k. P k × Q k) (max m n)
Least-both P Q m n up_p up_q p q = (
  (up_p m (max m n) (omega arith) p.0, up_q n (max m n) (omega arith) q.0),
  λ k lt both. elim (cases_lt k m) [
    | inl below ↦ p.1 k below both.0
    | inr le ↦ q.1 k (omega (arith, lt, le)) both.1
  ],
)

Least-zero : (P : ℕ → Type 0) (n : ℕ) → IsLeast P n → P 0 → n ≡ 0
Least-zero P zero h z = refl
Least-zero P (suc n) h z = absurd (h.1 0 (omega arith) z)

-- the least is no greater than any
pub Least-le : (P : ℕ → Type 0) (n k : ℕ) → IsLeast P n → P k → n ≤ k
Least-le P n k h p = elim (cases_lt k n) [
  | inl lt ↦ absurd (h.1 k lt p)
  | inr le ↦ le
]

-- ---- one term more

module _ (terms : List (ℕ × Term)) (lawful : IsIncompat terms) (i : ℕ) (x : ℕ × Term) (at : slice_get terms i ≡ Some x) (made : List Assignment) where
  seen-split : Satisfied made (take (suc i) terms) → Satisfied made (take i terms) × Holds made x.0 x.1
  seen-split h = (
    λ p c said. elim (cases_eq p x.0) [
      | inl same ↦ ap (λ q. true_at (take i terms) q c) same ∙ at-own_before 0 i terms x c lawful at
      | inr apart ↦ sym (at-other i terms x p c at apart) ∙ h p c said
    ],
    λ c said. sym (at-own_seen 0 i terms x c lawful at) ∙ h x.0 c said,
  )

  seen-join : Satisfied made (take i terms) × Holds made x.0 x.1 → Satisfied made (take (suc i) terms)
  seen-join h p c said = elim (cases_eq p x.0) [
    | inl same ↦ ap (λ q. true_at (take (suc i) terms) q c) same ∙ at-own_seen 0 i terms x c lawful at ∙ h.1 c (sym (ap (λ q. says made q c) same) ∙ said)
    | inr apart ↦ at-other i terms x p c at apart ∙ h.0 p c said
  ]

  but-split : (q : ℕ) → (q ≡ x.0 → ⊥) → SatisfiedBut made (take (suc i) terms) q → SatisfiedBut made (take i terms) q × Holds made x.0 x.1
  but-split q off h = (
    λ p c out said. elim (cases_eq p x.0) [
      | inl same ↦ ap (λ r. true_at (take i terms) r c) same ∙ at-own_before 0 i terms x c lawful at
      | inr apart ↦ sym (at-other i terms x p c at apart) ∙ h p c out said
    ],
    λ c said. sym (at-own_seen 0 i terms x c lawful at) ∙ h x.0 c (λ e. off (sym e)) said,
  )

  but-join : (q : ℕ) → SatisfiedBut made (take i terms) q × Holds made x.0 x.1 → SatisfiedBut made (take (suc i) terms) q
  but-join q h p c out said = elim (cases_eq p x.0) [
    | inl same ↦ ap (λ r. true_at (take (suc i) terms) r c) same ∙ at-own_seen 0 i terms x c lawful at ∙ h.1 c (sym (ap (λ r. says made r c) same) ∙ said)
    | inr apart ↦ at-other i terms x p c at apart ∙ h.0 p c out said
  ]

  own-split : SatisfiedBut made (take (suc i) terms) x.0 → Satisfied made (take i terms)
  own-split h p c said = elim (cases_eq p x.0) [
    | inl same ↦ ap (λ r. true_at (take i terms) r c) same ∙ at-own_before 0 i terms x c lawful at
    | inr apart ↦ sym (at-other i terms x p c at apart) ∙ h p c apart said
  ]

  own-join : Satisfied made (take i terms) → SatisfiedBut made (take (suc i) terms) x.0
  own-join h p c apart said = at-other i terms x p c at apart ∙ h p c said

-- what the loop over the terms keeps of those it has seen
pub record IsReached (made : List Assignment) (terms : List (ℕ × Term)) (i count own others : ℕ) : Type 0 where
  pub within : count ≤ length made
  pub ordered : others ≤ count
  pub least : IsLeast (λ k. Satisfied (take k made) (take i terms)) count
  pub found : 0 < i → (entry : ℕ × Term) × (slice_get terms own ≡ Some entry) × (own < i)
      × IsLeast (λ k. Holds (take k made) entry.0 entry.1) count × IsLeast (λ k. SatisfiedBut (take k made) (take i terms) entry.0) others

-- a term can be false, so that it takes an assignment
some_needed : (made : List Assignment) (low i : ℕ) (terms : List (ℕ × Term)) (x : ℕ × Term) (n : ℕ) → OrderedFrom low terms → slice_get terms i ≡ Some x → IsLeast (λ k. Holds (take k made) x.0 x.1) n → 1 ≤ n
some_needed made low i [] x n h e least = absurd (none-some x e)
some_needed made low zero (t ∷ rest) x zero h e least =
    let same : t ≡ x = same_Some t x e in
    absurd (true≢false (sym (least.0 h.1.0 refl) ∙ sym (ap (λ y. true_of y.1 h.1.0) same) ∙ h.1.1))
some_needed made low zero (t ∷ rest) x (suc n) h e least = omega arith
some_needed made low (suc i) (t ∷ rest) x n h e least = some_needed made (suc t.0) i rest x n h.2 e least

-- terms at two places are on two packages
low-at : (low i : ℕ) (terms : List (ℕ × Term)) (x : ℕ × Term) → OrderedFrom low terms → slice_get terms i ≡ Some x → low ≤ x.0
low-at low i [] x h e = absurd (none-some x e)
low-at low zero (t ∷ rest) x h e = subst (λ y. low ≤ y.0) (same_Some t x e) h.0
low-at low (suc i) (t ∷ rest) x h e = let more = low-at (suc t.0) i rest x h.2 e in omega (arith, more, h.0)

apart-at : (low i j : ℕ) (terms : List (ℕ × Term)) (x y : ℕ × Term) → OrderedFrom low terms → i < j → slice_get terms i ≡ Some x → slice_get terms j ≡ Some y → x.0 < y.0
apart-at low i j [] x y h lt e f = absurd (none-some x e)
apart-at low zero zero (t ∷ rest) x y h lt e f = absurd (omega (arith, lt))
apart-at low zero (suc j) (t ∷ rest) x y h lt e f = subst (λ z. z.0 < y.0) (same_Some t x e) (let more = low-at (suc t.0) j rest y h.2 f in omega (arith, more))
apart-at low (suc i) zero (t ∷ rest) x y h lt e f = absurd (omega (arith, lt))
apart-at low (suc i) (suc j) (t ∷ rest) x y h lt e f = apart-at (suc t.0) i j rest x y h.2 (omega (arith, lt)) e f

module _ (made : List Assignment) (terms : List (ℕ × Term)) (lawful : IsIncompat terms) (i : ℕ) (x : ℕ × Term) (lt : i < length terms) (read : x ≡ get_or terms i x)
    (count own others n : ℕ) (h : IsReached made terms i count own others) (s : IsShortestOn made x.0 x.1 n) where
  at : slice_get terms i ≡ Some x
  at = slice_get_read terms (length terms) i x refl lt read

  all : IsLeast (λ k. Satisfied (take k made) (take (suc i) terms)) (max count n)
  all =
      Least-same (λ k. Satisfied (take k made) (take i terms) × Holds (take k made) x.0 x.1) (λ k. Satisfied (take k made) (take (suc i) terms)) (max count n)
      (λ k both. seen-join terms lawful i x at (take k made) both) (λ k whole. seen-split terms lawful i x at (take k made) whole)
      (Least-both (λ k. Satisfied (take k made) (take i terms)) (λ k. Holds (take k made) x.0 x.1) count n (Satisfied-longer made (take i terms)) (Holds-longer made x.0 x.1) h.least s.least)

  pub reached-further : count < n → IsReached made terms (i + 1) n i count
  reached-further more =
      let is : max count n ≡ n = omega arith in
      rw add-one (record {
        within = s.within;
        ordered = omega (arith, more);
        least = subst (IsLeast (λ k. Satisfied (take k made) (take (suc i) terms))) is all;
        found = λ _. (
          x,
          at,
          omega arith,
          s.least,
          Least-same (λ k. Satisfied (take k made) (take i terms)) (λ k. SatisfiedBut (take k made) (take (suc i) terms) x.0) count
              (λ k whole. own-join terms lawful i x at (take k made) whole) (λ k but. own-split terms lawful i x at (take k made) but) h.least,
        );
      })

  some_before : n ≤ count → 0 < i
  some_before le = elim (cases_eq i 0) [
    | inl e ↦
        let none : count ≡ 0 = Least-zero (λ k. Satisfied (take k made) (take i terms)) count h.least (λ p c said. ap (λ j. true_at (take j terms) p c) e) in
        let one = some_needed made 0 i terms x n lawful at s.least in
        absurd (omega (arith, le, none, one))
    | inr apart ↦ omega (arith, apart)
  ]

  reached-as_far : (now : ℕ) → n ≤ count → now ≡ max others n → IsReached made terms (i + 1) count own now
  reached-as_far now le is_now =
      let is : max count n ≡ count = omega arith in
      let f = h.found (some_before le) in
      let off : f.0.0 ≡ x.0 → ⊥ = λ e. let below = apart-at 0 own i terms f.0 x lawful f.2 f.1 at in omega (arith, e, below) in
      rw (add-one, is_now) (record {
        within = h.within;
        ordered = omega (arith, h.ordered, le);
        least = subst (IsLeast (λ k. Satisfied (take k made) (take (suc i) terms))) is all;
        found = λ _. (
          f.0,
          f.1,
          omega (arith, f.2),
          f.3,
          Least-same (λ k. SatisfiedBut (take k made) (take i terms) f.0.0 × Holds (take k made) x.0 x.1) (λ k. SatisfiedBut (take k made) (take (suc i) terms) f.0.0) (max others n)
              (λ k both. but-join terms lawful i x at (take k made) f.0.0 both) (λ k but. but-split terms lawful i x at (take k made) f.0.0 off but)
              (Least-both (λ k. SatisfiedBut (take k made) (take i terms) f.0.0) (λ k. Holds (take k made) x.0 x.1) others n (SatisfiedBut-longer made (take i terms) f.0.0) (Holds-longer made x.0 x.1) f.4 s.least),
        );
      })

-- a term that holds with fewer assignments than the others take changes nothing
module _ (made : List Assignment) (terms : List (ℕ × Term)) (lawful : IsIncompat terms) (i : ℕ) (x : ℕ × Term) (lt : i < length terms) (read : x ≡ get_or terms i x)
    (count own others n : ℕ) (h : IsReached made terms i count own others) where
  here : slice_get terms i ≡ Some x
  here = slice_get_read terms (length terms) i x refl lt read

  others_before : n < others → 0 < i
  others_before below = elim (cases_eq i 0) [
    | inl e ↦
        let none : count ≡ 0 = Least-zero (λ k. Satisfied (take k made) (take i terms)) count h.least (λ p c said. ap (λ j. true_at (take j terms) p c) e) in
        absurd (omega (arith, below, h.ordered, none))
    | inr apart ↦ omega (arith, apart)
  ]

  reached-below : Holds (take n made) x.0 x.1 → n < others → IsReached made terms (i + 1) count own others
  reached-below holds below =
      let f = h.found (others_before below) in
      let off : f.0.0 ≡ x.0 → ⊥ = λ e. let less = apart-at 0 own i terms f.0 x lawful f.2 f.1 here in omega (arith, e, less) in
      rw add-one (record {
        within = h.within;
        ordered = h.ordered;
        least = (
          seen-join terms lawful i x here (take count made) (h.least.0, Holds-longer made x.0 x.1 n count (omega (arith, below, h.ordered)) holds),
          λ k less whole. h.least.1 k less (seen-split terms lawful i x here (take k made) whole).0,
        );
        found = λ _. (
          f.0,
          f.1,
          omega (arith, f.2),
          f.3,
          (
            but-join terms lawful i x here (take others made) f.0.0 (f.4.0, Holds-longer made x.0 x.1 n others (omega (arith, below)) holds),
            λ k less but. f.4.1 k less (but-split terms lawful i x here (take k made) f.0.0 off but).0,
          ),
        );
      })

  pub reached-no_further : (others ≤ n → IsShortestOn made x.0 x.1 n) → Holds (take n made) x.0 x.1 → (now : ℕ) → n ≤ count → now ≡ max others n → IsReached made terms (i + 1) count own now
  reached-no_further s holds now le is_now = elim (cases_lt n others) [
    | inl below ↦
        let same : others ≡ now = omega (arith, below, is_now) in
        subst (IsReached made terms (i + 1) count own) same (reached-below holds below)
    | inr more ↦ reached-as_far made terms lawful i x lt read count own others n h (s more) now le is_now
  ]

-- the last assignment that a package's term needs is on that package
needed_on : (made : List Assignment) (p : ℕ) (t : Term) (n : ℕ) → suc n ≤ length made → IsLeast (λ k. Holds (take k made) p t) (suc n) → IsPlaceOn made p (Some n)
needed_on made p t n within h = from (slice_get made n) refl
  where
    past : slice_get made n ≡ None → ⊥
    past none = none_within made n within none
      where
        none_within : (xs : List Assignment) (i : ℕ) → suc i ≤ length xs → slice_get xs i ≡ None → ⊥
        none_within [] i le e = omega (arith, le)
        none_within (x ∷ xs) zero le e = none-some x (sym e)
        none_within (x ∷ xs) (suc i) le e = none_within xs i (omega (arith, le)) e

    from : (o : Option Assignment) → slice_get made n ≡ o → IsPlaceOn made p (Some n)
    from None e = absurd (past e)
    from (Some a) e = elim (cases_eq a.pkg p) [
      | inl same ↦ (a, e, same)
      | inr apart ↦ absurd (h.1 n (omega arith) (λ c said.
          h.0 c (ap (λ xs. says xs p c) (next made n a e) ∙ says-push_other (take n made) a p c apart ∙ said)))
    ]

-- all terms are seen
pub reached-all : (made : List Assignment) (terms : List (ℕ × Term)) (lawful : IsIncompat terms) (i count own others : ℕ) → length terms ≤ i → 0 < length terms → IsReached made terms i count own others → IsReach made terms count own others
reached-all made terms lawful i count own others le some h =
    let whole : take i terms ≡ terms = take_all i terms le in
    let f = h.found (omega (arith, le, some)) in
    let one = some_needed made 0 own terms f.0 count lawful f.1 f.3 in
    let is : suc (count - 1) ≡ count = omega (arith, one) in
    record {
      some = one;
      within = h.within;
      own_within = slice_get_within terms own f.0 f.1;
      entry = f.0;
      at = f.1;
      on_own = needed_on made f.0.0 f.0.1 (count - 1) (omega (arith, is, h.within)) (subst (IsLeast (λ k. Holds (take k made) f.0.0 f.0.1)) (sym is) f.3);
      least_own = f.3;
      least = subst (λ ts. IsLeast (λ k. Satisfied (take k made) ts) count) whole h.least;
      least_others = subst (λ ts. IsLeast (λ k. SatisfiedBut (take k made) ts f.0.0) others) whole f.4;
    }

-- what the whole list of assignments satisfies holds of a term, up to the last place on its package
pub holds-last : (made : List Assignment) (terms : List (ℕ × Term)) (lawful : IsIncompat terms) (i : ℕ) (x : ℕ × Term) → i < length terms → x ≡ get_or terms i x → Satisfied made terms
    → (last : Option ℕ) → last ≡ last_place made x.0 → Holds (take (through last) made) x.0 x.1
holds-last made terms lawful i x lt read sat last is c said =
    let at : slice_get terms i ≡ Some x = slice_get_read terms (length terms) i x refl lt read in
    sym (at-own 0 i terms x c lawful at) ∙ sat x.0 c (says-last made x.0 c ∙ ap (λ o. says (take (through o) made) x.0 c) (sym is) ∙ said)

-- ---- the walk along one package

module _ (made : List Assignment) (p : ℕ) (t : Term) (at : ℕ) (earlier : Option ℕ) (within : suc at ≤ length made) (is : earlier ≡ last_place (take at made) p) (le : through earlier ≤ at) where
  says_before : (c : Option ℕ) → says (take at made) p c ≡ says (take (through earlier) made) p c
  says_before c = says-last (take at made) p c ∙ ap (λ o. says (take (through o) (take at made)) p c) (sym is) ∙ ap (λ xs. says xs p c) (take-take (through earlier) at made le)

  -- the walk goes on where the earlier ones suffice
  pub walk_on : (said : Term) → ((c : Option ℕ) → true_of said c ≡ says (take (through earlier) made) p c) → Implies said t → Holds (take (through earlier) made) p t
  walk_on said is_said implied c h = implied c (is_said c ∙ h)

  -- and ends where they don't
  pub walk_ends : (said : Term) → ((c : Option ℕ) → true_of said c ≡ says (take (through earlier) made) p c) → Exception said t → Holds (take (suc at) made) p t → IsShortestOn made p t (at + 1)
  walk_ends said is_said w holds = rw add-one (record {
    within = within;
    least = (
      holds,
      λ k lt h.
          let there : says (take k made) p w.choice ≡ true = says-shorter k at made p w.choice (omega (arith, lt)) (says_before w.choice ∙ sym (is_said w.choice) ∙ w.first_true) in
          true≢false (sym (h w.choice there) ∙ w.second_false),
    );
  })
