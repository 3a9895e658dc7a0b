-- The satisfier and the previous level, from how far the assignments must go.
use Rattle.std.proofs.Common.{◌≡◌, ◌<◌, ◌≤◌, ◌+◌, ◌-◌, ◌∙◌, ℕ, suc, refl, sym, ap, subst, arith, true, not, ◌||◌, List, [], ◌∷◌, ◌++◌, length, take, get_or, max, inl, inr}
use Rattle.std.proofs.lemmas.Bool.{cases_Bool, cases_lt, cases_eq, and_parts}
use Rattle.std.proofs.lemmas.List.{append-nil, take-take, length-take-le}
use Rattle.std.proofs.lemmas.Option.{get_or_from_slice_get}
use Rattle.std.specs.Prelude.{Option, Some, slice_get}
use Rattle.terms.specs.Terms.{true_of, Exception, Implies}
use Rattle.terms.specs.Incompats.{true_at, IsIncompat}
use Rattle.terms.specs.declared.term.Term.{Term}
use Rattle.search.specs.declared.assignment.Assignment.{Assignment}
use Rattle.search.specs.declared.trail.Note.{Note}
use Rattle.search.specs.Assignments.{says, decisions}
use Rattle.search.specs.Satisfying.{Satisfied, SatisfiedBut, IsSatisfier}
use Rattle.search.specs.Trail.{last_place, through, IsNoted, IsPlaceOn}
use Rattle.search.specs.Reach.{Holds, IsLeast, IsReach, IsShortestOn}
use Rattle.search.proofs.Saying.{says-shorter, says-push_own, says-push_other}
use Rattle.search.proofs.Places.{last_on_package, says-last, through-within, IsPlaceOn-taken}
use Rattle.search.proofs.Noting.{note-earlier}
use Rattle.search.proofs.TermsSeen.{at-own}
use Rattle.search.proofs.Reaching.{next, walk_ends, walk_on, Least-le}

-- ---- a step of the walk along one package

module _ (made : List Assignment) (notes : List Note) (heads : ℕ → Option (Option ℕ)) (m : IsNoted made notes heads) (p : ℕ) (t : Term)
    (place : Option ℕ) (on : IsPlaceOn made p place) (at : ℕ) (is : place ≡ Some at) (note : Note) (read : note ≡ get_or notes at note) where
  here : IsPlaceOn made p (Some at)
  here = rw is at on

  before_is : note.earlier ≡ last_place (take at made) p
  before_is = note-earlier made notes heads m at note read p here

  kept : (through note.earlier ≤ at) × IsPlaceOn made p note.earlier
  kept = IsPlaceOn-taken at made p note.earlier (subst (IsPlaceOn (take at made) p) (sym before_is) (last_on_package (take at made) p))

  inside : suc at ≤ length made
  inside = through-within made p (Some at) here

  pub step-within : through note.earlier ≤ length made
  step-within = omega (arith, kept.0, inside)

  pub step-falls : through note.earlier < through place
  step-falls = rw is (omega (arith, kept.0))

  pub step-on : IsPlaceOn made p note.earlier
  step-on = kept.1

  module _ (said : Term) (is_said : (q : ℕ) (c : Option ℕ) → IsPlaceOn made q note.earlier → true_of said c ≡ says (take (through note.earlier) made) q c) where
    pub step-holds : Implies said t → Holds (take (through note.earlier) made) p t
    step-holds implied = walk_on made p t at note.earlier inside before_is kept.0 said (λ c. is_said p c kept.1) implied

    pub step-ends : Holds (take (through place) made) p t → Exception said t → IsShortestOn made p t (at + 1)
    step-ends holds w = walk_ends made p t at note.earlier inside before_is kept.0 said (λ c. is_said p c kept.1) w (rw is at holds)

module _ (made : List Assignment) (notes : List Note) (heads : ℕ → Option (Option ℕ)) (m : IsNoted made notes heads)
    (terms : List (ℕ × Term)) (lawful : IsIncompat terms) (count own others index : ℕ) (r : IsReach made terms count own others) (is_index : index ≡ count - 1)
    (a : Assignment) (read_a : a ≡ get_or made index a) (x : ℕ × Term) (read_x : x ≡ get_or terms own x) (note : Note) (read_n : note ≡ get_or notes index note) where
  count_is : suc index ≡ count
  count_is = omega (arith, is_index, r.some)

  entry_is : r.entry ≡ x
  entry_is = sym (get_or_from_slice_get terms own r.entry x r.at) ∙ sym read_x

  x_at : slice_get terms own ≡ Some x
  x_at = r.at ∙ ap Some entry_is

  there : (b : Assignment) × (slice_get made index ≡ Some b) × (b.pkg ≡ x.0)
  there = subst (λ p. IsPlaceOn made p (Some index)) (ap (λ e. e.0) entry_is) (subst (λ n. IsPlaceOn made r.entry.0 (Some n)) (sym is_index) r.on_own)

  b_is : there.0 ≡ a
  b_is = sym (get_or_from_slice_get made index there.0 a there.1) ∙ sym read_a

  a_at : slice_get made index ≡ Some a
  a_at = there.1 ∙ ap Some b_is

  a_on : a.pkg ≡ x.0
  a_on = ap (λ b. b.pkg) (sym b_is) ∙ there.2

  on : IsPlaceOn made x.0 (Some index)
  on = (a, a_at, a_on)

  earlier : note.earlier ≡ last_place (take index made) x.0
  earlier = note-earlier made notes heads m index note read_n x.0 on

  taken : (through note.earlier ≤ index) × IsPlaceOn made x.0 note.earlier
  taken = IsPlaceOn-taken index made x.0 note.earlier (subst (IsPlaceOn (take index made) x.0) (sym earlier) (last_on_package (take index made) x.0))

  pub alone_on : IsPlaceOn made x.0 note.earlier
  alone_on = taken.1

  before : (c : Option ℕ) → says (take index made) x.0 c ≡ says (take (through note.earlier) made) x.0 c
  before c = says-last (take index made) x.0 c ∙ ap (λ o. says (take (through o) (take index made)) x.0 c) (sym earlier) ∙ ap (λ xs. says xs x.0 c) (take-take (through note.earlier) index made taken.0)

  own_holds : Holds (take (suc index) made) x.0 x.1
  own_holds = subst (λ e. Holds (take (suc index) made) e.0 e.1) entry_is (subst (λ n. Holds (take n made) r.entry.0 r.entry.1) (sym count_is) r.least_own.0)

  with_it : (c : Option ℕ) → says (take index made) x.0 c ≡ true → true_of a.term c ≡ true → true_of x.1 c ≡ true
  with_it c said t = own_holds c (ap (λ xs. says xs x.0 c) (next made index a a_at) ∙ says-push_own (take index made) a x.0 c a_on ∙ rw (said, t) refl)

  others_least : IsLeast (λ k. SatisfiedBut (take k made) terms x.0) others
  others_least = subst (λ e. IsLeast (λ k. SatisfiedBut (take k made) terms e.0) others) entry_is r.least_others

  -- the others are satisfied before the satisfier
  others_before : others ≤ index
  others_before = Least-le (λ k. SatisfiedBut (take k made) terms x.0) others index others_least (λ p c apart said.
      sat p c (ap (λ xs. says xs p c) (next made index a a_at) ∙ says-push_other (take index made) a p c (λ e. apart (sym e ∙ a_on)) ∙ said))
    where
      sat : Satisfied (take (suc index) made) terms
      sat = subst (λ n. Satisfied (take n made) terms) (sym count_is) r.least.0

  pub before_within : (alone n : ℕ) → alone ≤ through note.earlier → n ≡ max alone others → n ≤ length made
  before_within alone n le is_n = omega (arith, le, taken.0, others_before, is_n, r.within, count_is)

  module _ (rest : Term) (exact : (c : Option ℕ) → true_of rest c ≡ (not (true_of a.term c) || true_of x.1 c)) where
    pub alone_holds : Holds (take (through note.earlier) made) x.0 rest
    alone_holds c said = exact c ∙ elim (cases_Bool (true_of a.term c)) [
      | inl t ↦ rw (t, with_it c (before c ∙ said) t) refl
      | inr f ↦ rw f refl
    ]

    rest_there : (c : Option ℕ) → true_of rest c ≡ true → true_of a.term c ≡ true → true_of x.1 c ≡ true
    rest_there c h t = sym (rw t refl) ∙ sym (exact c) ∙ h

    -- to satisfy the terms with the satisfier is to satisfy the others, and what is left of the own one
    both : (k : ℕ) → SatisfiedBut (take k made) terms x.0 → Holds (take k made) x.0 rest → Satisfied (take k made ++ a ∷ []) terms
    both k but holds p c said = elim (cases_eq p x.0) [
      | inl same ↦
          let said' : says (take k made ++ a ∷ []) x.0 c ≡ true = subst (λ q. says (take k made ++ a ∷ []) q c ≡ true) same said in
          let parts = and_parts (says (take k made) x.0 c) (true_of a.term c) (sym (says-push_own (take k made) a x.0 c a_on) ∙ said') in
          ap (λ q. true_at terms q c) same ∙ at-own 0 own terms x c lawful x_at ∙ rest_there c (holds c parts.0) parts.1
      | inr apart ↦ but p c apart (sym (says-push_other (take k made) a p c (λ e. apart (sym e ∙ a_on))) ∙ said)
    ]

    one_of : (k : ℕ) → Satisfied (take k made ++ a ∷ []) terms → SatisfiedBut (take k made) terms x.0 × Holds (take k made) x.0 rest
    one_of k sat = (
      λ p c apart said. sat p c (says-push_other (take k made) a p c (λ e. apart (sym e ∙ a_on)) ∙ said),
      λ c said. exact c ∙ elim (cases_Bool (true_of a.term c)) [
        | inl t ↦
            let there : says (take k made ++ a ∷ []) x.0 c ≡ true = says-push_own (take k made) a x.0 c a_on ∙ rw (said, t) refl in
            rw (t, sym (at-own 0 own terms x c lawful x_at) ∙ sat x.0 c there) refl
        | inr f ↦ rw f refl
      ],
    )

    pub found : (alone n level : ℕ) → IsShortestOn made x.0 rest alone → alone ≤ through note.earlier → n ≡ max alone others → level ≡ max (decisions (take n made)) 1 → IsSatisfier made terms index level
    found alone n level s le is_n is_level =
        let early : n ≤ index = omega (arith, le, taken.0, others_before, is_n) in
        let within : index ≤ length made = omega (arith, r.within, count_is) in
        let short : (k : ℕ) → k ≤ index → take k (take index made) ≡ take k made = λ k small. take-take k index made small in
        let whole : index + 1 ≡ count = omega (arith, count_is) in
        record {
          satisfier = a;
          at = a_at;
          shortest = record {
            within = omega (arith, whole, r.within);
            satisfied = subst (λ xs. Satisfied xs terms) (sym (append-nil (take (index + 1) made))) (subst (λ k. Satisfied (take k made) terms) (sym whole) r.least.0);
            least = λ k lt sat. r.least.1 k (omega (arith, lt, whole)) (subst (λ xs. Satisfied xs terms) (append-nil (take k made)) sat);
          };
          count = n;
          previous = record {
            within = omega (arith, early, length-take-le index made within);
            satisfied = subst (λ xs. Satisfied (xs ++ a ∷ []) terms) (sym (short n early)) (both n
                (λ p c apart said. others_least.0 p c apart (says-shorter others n made p c (omega (arith, is_n)) said))
                (λ c said. s.least.0 c (says-shorter alone n made x.0 c (omega (arith, is_n)) said)));
            least = λ k lt sat.
                let parts = one_of k (subst (λ xs. Satisfied (xs ++ a ∷ []) terms) (short k (omega (arith, lt, early))) sat) in
                elim (cases_lt k alone) [
                  | inl below ↦ s.least.1 k below parts.1
                  | inr above ↦ others_least.1 k (omega (arith, lt, above, is_n)) parts.0
                ];
          };
          level_is = is_level;
        }
