-- What decisions say of other selections, and that those in the order of the walk, each for the best version that is left, make the newest selection.
use Rattle.std.proofs.Common.{◌≡◌, ◌∙◌, ◌<◌, ◌≤◌, arith, ℕ, zero, suc, List, [], ◌∷◌, ◌++◌, take, refl, sym, ap, subst, true, false, true≢false, not, nat_eq, if◌then◌else◌, inl, inr}
use Rattle.std.proofs.lemmas.Bool.{cases_Bool, eq-eqb, eqb-true}
use Rattle.std.proofs.lemmas.Option.{none-some, same_Some}
use Rattle.std.specs.Prelude.{IsSome, None, Option, Some, is_some, slice_get}
use Rattle.std.specs.Option.{option_or}
use Rattle.terms.specs.Terms.{true_of}
use Rattle.terms.specs.Incompats.{true_at}
use Rattle.terms.specs.declared.term.Term.TheVariants.{In}
use Rattle.search.specs.declared.assignment.Assignment.{Assignment}
use Rattle.search.specs.declared.assignment.Why.{Why}
use Rattle.search.specs.declared.assignment.Why.TheVariants.{Decided, Derived}
use Rattle.search.specs.Assignments.{AreAssignments, DecidedOnce, IsExact, IsPartial, decided, decided_by, is_decided, says}
use Rattle.versions.specs.Words.{Text}
use Rattle.registry.specs.Registry.{Packages, needs_of, number_of, package_at}
use Rattle.registry.specs.Requests.{Wanted, is_allowed}
use Rattle.registry.specs.Selections.{Choices, Meets, with_root}
use Rattle.derivations.specs.Facts.{AllTrue}
use Rattle.derivations.specs.Laws.{KeptLinesHold}
use Rattle.derivations.specs.declared.known.CausedIncompatibility.{CausedIncompatibility}
use Rattle.walk.specs.Choosing.{Follows, choice_of}
use Rattle.walk.specs.declared.listing.NextPackage.{NextPackage}
use Rattle.walk.specs.Listing.{AreAll, EndsWith, IsListing, IsNext, ListIsSelection, NothingComesNext, OneListInOrder}
use Rattle.walk.specs.Newest.{Has, IsAhead, IsNewest, next_package}
use Rattle.walk.specs.Walks.{IsForbidden, IsUnmetAt}
use Rattle.oracle.specs.declared.task.Task.{Task}
use Rattle.search.specs.Deciding.{IsBestLeft, IsEndOfOrder, IsInOrder, IsPlaced, IsTurnAt, IsTurnOf, decisions_in, with_decision}
use Rattle.search.specs.declared.search.Search.{Search}
use Rattle.search.specs.Searching.{IsCaused, IsCausedBy, IsSearch, Searches}
use Rattle.search.proofs.Saying.{says-push_own, says-push_other}
use Rattle.search.proofs.Places.{get-taken}
use Rattle.search.proofs.Reaching.{next}
use Rattle.search.proofs.Decided.{says_only}
use Rattle.search.proofs.Naming.{reached-numbered}

-- ---- what assignments say of other selections

-- no line has all its terms true of the choices
abbrev Obeys : List CausedIncompatibility → Choices → Type 0
Obeys known t = (k : ℕ) (line : CausedIncompatibility) → slice_get known k ≡ Some line → AllTrue line.conclusion (with_root t) → ⊥

-- the choices make the first i decisions true
abbrev Shares : Choices → List Assignment → ℕ → Type 0
Shares t made i = (j : ℕ) (a : Assignment) (ordinal : ℕ) → slice_get (take i made) j ≡ Some a → a.why ≡ Decided ordinal → true_of a.term (with_root t a.pkg) ≡ true

-- what one more assignment says, where it is true of the package's choice
says_more : (made : List Assignment) (a : Assignment) (pkg : ℕ) (choice : Option ℕ) → says made pkg choice ≡ true → (nat_eq a.pkg pkg ≡ true → true_of a.term choice ≡ true)
    → says (made ++ a ∷ []) pkg choice ≡ true
says_more made a pkg choice h g = elim (cases_Bool (nat_eq a.pkg pkg)) [
  | inl t ↦ says-push_own made a pkg choice (eqb-true a.pkg pkg t) ∙ rw (h, g t) refl
  | inr f ↦ says-push_other made a pkg choice (λ e. true≢false (sym (eq-eqb a.pkg pkg e) ∙ f)) ∙ h
]

take_past : (xs : List Assignment) (i : ℕ) → slice_get xs i ≡ None → take (suc i) xs ≡ take i xs
take_past [] zero at = refl
take_past [] (suc i) at = refl
take_past (y ∷ xs) zero at = absurd (none-some y (sym at))
take_past (y ∷ xs) (suc i) at = ap (λ zs. y ∷ zs) (take_past xs i at)

-- what stands among more than come before it stands in the whole
get_among : (xs : List Assignment) (n j : ℕ) → j < n → slice_get (take n xs) j ≡ slice_get xs j
get_among xs zero j lt = absurd (omega arith)
get_among [] (suc n) j lt = refl
get_among (y ∷ xs) (suc n) zero lt = refl
get_among (y ∷ xs) (suc n) (suc j) lt = get_among xs n j (omega arith)

module _ (packages : Packages) (wanted : Wanted) (known : List CausedIncompatibility) (made : List Assignment) (t : Choices)
    (caused : (i : ℕ) (a : Assignment) → slice_get made i ≡ Some a → IsCausedBy packages wanted known (take i made) a a.why) (obeys : Obeys known t) where
  -- an assignment is true of choices that make those before it true
  next_true : (i : ℕ) (a : Assignment) → slice_get made i ≡ Some a → ((pkg : ℕ) → says (take i made) pkg (with_root t pkg) ≡ true) → Shares t made (suc i)
      → true_of a.term (with_root t a.pkg) ≡ true
  next_true i a at before shares = by a.why refl (caused i a at)
    where
      derived : (k : ℕ) → IsCaused known (take i made) a k → true_of a.term (with_root t a.pkg) ≡ true
      derived k c = elim (cases_Bool (true_of a.term (with_root t a.pkg))) [
        | inl holds ↦ holds
        | inr fails ↦ absurd (obeys k c.line c.at (λ p. elim (cases_Bool (nat_eq p a.pkg)) [
          | inl same ↦ subst (λ q. true_at c.line.conclusion q (with_root t q) ≡ true) (sym (eqb-true p a.pkg same)) (c.negation (with_root t a.pkg) ∙ ap not fails)
          | inr other ↦ c.others p (with_root t p) (λ e. true≢false (sym (ap (λ q. nat_eq q a.pkg) e ∙ eq-eqb a.pkg a.pkg refl) ∙ other)) (before p)
        ]))
      ]

      by : (w : Why) → a.why ≡ w → IsCausedBy packages wanted known (take i made) a a.why → true_of a.term (with_root t a.pkg) ≡ true
      by (Decided ordinal) e c = shares i a ordinal (get_among made (suc i) i (omega arith) ∙ at) e
      by (Derived k) e c = derived k (subst (λ w. IsCausedBy packages wanted known (take i made) a w) e c)

  all_true : (i : ℕ) → Shares t made i → (pkg : ℕ) → says (take i made) pkg (with_root t pkg) ≡ true
  all_true zero shares pkg = refl
  all_true (suc i) shares pkg = by (all_true i (λ j a ordinal at why. let there = get-taken i made j a at in shares j a ordinal (get_among made (suc i) j (omega (arith, there.0)) ∙ there.1) why)) (slice_get made i) refl
    where
      by : ((q : ℕ) → says (take i made) q (with_root t q) ≡ true) → (o : Option Assignment) → slice_get made i ≡ o → says (take (suc i) made) pkg (with_root t pkg) ≡ true
      by before None at = ap (λ xs. says xs pkg (with_root t pkg)) (take_past made i at) ∙ before pkg
      by before (Some a) at =
          ap (λ xs. says xs pkg (with_root t pkg)) (next made i a at)
          ∙ says_more (take i made) a pkg (with_root t pkg) (before pkg) (λ same. subst (λ q. true_of a.term (with_root t q) ≡ true) (eqb-true a.pkg pkg same) (next_true i a at before shares))

-- ---- the list of decisions

eq_flips : (p q : ℕ) → nat_eq p q ≡ nat_eq q p
eq_flips p q = elim (cases_Bool (nat_eq p q)) [
  | inl t ↦ t ∙ sym (eq-eqb q p (sym (eqb-true p q t)))
  | inr f ↦ elim (cases_Bool (nat_eq q p)) [
    | inl t ↦ absurd (true≢false (sym (eq-eqb p q (sym (eqb-true q p t))) ∙ f))
    | inr g ↦ f ∙ sym g
  ]
]

-- it has what is decided of each package but the root
pub decided-choice : (made : List Assignment) (p : ℕ) → 1 ≤ p → decided made p ≡ choice_of (decisions_in made) p
decided-choice [] p from = refl
decided-choice (a ∷ made) p from = by a.pkg a.why (decided-choice made p from)
  where
    by : (q : ℕ) (why : Why) → decided made p ≡ choice_of (decisions_in made) p → option_or (if nat_eq q p then decided_by why else None) (decided made p) ≡ choice_of (with_decision q why (decisions_in made)) p
    by zero why rest = elim (cases_Bool (nat_eq 0 p)) [
      | inl t ↦ absurd (let zero_is : 0 ≡ p = eqb-true 0 p t in omega (arith, zero_is, from))
      | inr f ↦ rw f rest
    ]
    by (suc n) (Decided k) rest = elim (cases_Bool (nat_eq (suc n) p)) [
      | inl t ↦ rw (t, sym (eq_flips (suc n) p) ∙ t) refl
      | inr f ↦ rw (f, sym (eq_flips (suc n) p) ∙ f) rest
    ]
    by (suc n) (Derived cause) rest = elim (cases_Bool (nat_eq (suc n) p)) [
      | inl t ↦ rw t rest
      | inr f ↦ rw f rest
    ]

-- the decision that stands at a place of it
record IsDecisionAt (made : List Assignment) (i : ℕ) (e : ℕ × ℕ) : Type 0 where
  d : ℕ
  a : Assignment
  at : slice_get made d ≡ Some a
  pkg : a.pkg ≡ e.0
  why : a.why ≡ Decided e.1
  from : 1 ≤ e.0
  before : decisions_in (take d made) ≡ take i (decisions_in made)

decision_at : (made : List Assignment) (i : ℕ) (e : ℕ × ℕ) → slice_get (decisions_in made) i ≡ Some e → IsDecisionAt made i e
decision_at [] i e at = absurd (none-some e at)
decision_at (a ∷ made) i e at = by a.pkg refl a.why refl i (decision_at made) at
  where
    later : (j : ℕ) → IsDecisionAt made j e → decisions_in (a ∷ made) ≡ decisions_in made → ((xs : List (ℕ × ℕ)) → with_decision a.pkg a.why xs ≡ xs) → IsDecisionAt (a ∷ made) j e
    later j r same none = record {
      d = suc r.d;
      a = r.a;
      at = r.at;
      pkg = r.pkg;
      why = r.why;
      from = r.from;
      before = none (decisions_in (take r.d made)) ∙ r.before ∙ ap (take j) (sym same);
    }

    by : (q : ℕ) → a.pkg ≡ q → (why : Why) → a.why ≡ why → (j : ℕ) → ((l : ℕ) (f : ℕ × ℕ) → slice_get (decisions_in made) l ≡ Some f → IsDecisionAt made l f)
        → slice_get (with_decision a.pkg a.why (decisions_in made)) j ≡ Some e → IsDecisionAt (a ∷ made) j e
    by zero eq why ew j rest here =
        let none : (xs : List (ℕ × ℕ)) → with_decision a.pkg a.why xs ≡ xs = λ xs. ap (λ q. with_decision q a.why xs) eq in
        later j (rest j e (sym (ap (λ xs. slice_get xs j) (none (decisions_in made))) ∙ here)) (none (decisions_in made)) none
    by (suc n) eq (Derived cause) ew j rest here =
        let none : (xs : List (ℕ × ℕ)) → with_decision a.pkg a.why xs ≡ xs = λ xs. ap (λ q. with_decision q a.why xs) eq ∙ ap (λ w. with_decision (suc n) w xs) ew in
        later j (rest j e (sym (ap (λ xs. slice_get xs j) (none (decisions_in made))) ∙ here)) (none (decisions_in made)) none
    by (suc n) eq (Decided k) ew zero rest here =
        let some : (xs : List (ℕ × ℕ)) → with_decision a.pkg a.why xs ≡ (suc n, k) ∷ xs = λ xs. ap (λ q. with_decision q a.why xs) eq ∙ ap (λ w. with_decision (suc n) w xs) ew in
        let same : (suc n, k) ≡ e = same_Some (suc n, k) e (sym (ap (λ xs. slice_get xs 0) (some (decisions_in made))) ∙ here) in
        record {
          d = 0;
          a = a;
          at = refl;
          pkg = eq ∙ ap (λ (x : ℕ × ℕ). x.0) same;
          why = ew ∙ ap (λ (x : ℕ × ℕ). Decided x.1) same;
          from = subst (λ (x : ℕ × ℕ). 1 ≤ x.0) same (omega arith);
          before = refl;
        }
    by (suc n) eq (Decided k) ew (suc j) rest here =
        let some : (xs : List (ℕ × ℕ)) → with_decision a.pkg a.why xs ≡ (suc n, k) ∷ xs = λ xs. ap (λ q. with_decision q a.why xs) eq ∙ ap (λ w. with_decision (suc n) w xs) ew in
        let r = rest j e (sym (ap (λ xs. slice_get xs (suc j)) (some (decisions_in made))) ∙ here) in
        record {
          d = suc r.d;
          a = r.a;
          at = r.at;
          pkg = r.pkg;
          why = r.why;
          from = r.from;
          before = some (decisions_in (take r.d made)) ∙ ap (λ xs. (suc n, k) ∷ xs) r.before ∙ ap (take (suc j)) (sym (some (decisions_in made)));
        }

-- ---- decisions are made once

undecided_taken : (made : List Assignment) (n p : ℕ) → decided made p ≡ None → decided (take n made) p ≡ None
undecided_taken made zero p none = refl
undecided_taken [] (suc n) p none = refl
undecided_taken (a ∷ made) (suc n) p none = by (λ h. undecided_taken made n p h) (if nat_eq a.pkg p then decided_by a.why else None) refl none
  where
    by : (decided made p ≡ None → decided (take n made) p ≡ None) → (o : Option ℕ) → (if nat_eq a.pkg p then decided_by a.why else None) ≡ o → option_or (if nat_eq a.pkg p then decided_by a.why else None) (decided made p) ≡ None
        → option_or (if nat_eq a.pkg p then decided_by a.why else None) (decided (take n made) p) ≡ None
    by rest None e h = ap (λ o. option_or o (decided (take n made) p)) e ∙ rest (sym (ap (λ o. option_or o (decided made p)) e) ∙ h)
    by rest (Some k) e h = absurd (none-some k (sym h ∙ ap (λ o. option_or o (decided made p)) e))

not_some : (o : Option ℕ) → is_some o ≡ false → o ≡ None
not_some None e = refl
not_some (Some k) e = absurd (true≢false e)

once_taken : (made : List Assignment) (n : ℕ) → DecidedOnce made → DecidedOnce (take n made)
once_taken made zero h = tt
once_taken [] (suc n) h = tt
once_taken (a ∷ made) (suc n) h = (λ t. ap is_some (undecided_taken made n a.pkg (not_some (decided made a.pkg) (h.0 t))), once_taken made n h.1)

decided_at : (made : List Assignment) (d : ℕ) (a : Assignment) (k : ℕ) → DecidedOnce made → slice_get made d ≡ Some a → a.why ≡ Decided k → decided made a.pkg ≡ Some k
decided_at [] d a k once at why = absurd (none-some a at)
decided_at (b ∷ made) zero a k once at why =
    let same : b ≡ a = same_Some b a at in
    let here : (if nat_eq b.pkg a.pkg then decided_by b.why else None) ≡ Some k =
    ap (λ (x : Assignment). if nat_eq x.pkg a.pkg then decided_by x.why else None) same ∙ ap (λ t. if t then decided_by a.why else None) (eq-eqb a.pkg a.pkg refl) ∙ ap decided_by why in
    ap (λ o. option_or o (decided made a.pkg)) here
decided_at (b ∷ made) (suc d) a k once at why = elim (cases_Bool (nat_eq b.pkg a.pkg)) [
  | inl t ↦ by (decided_at made d a k once.1 at why) (decided_by b.why) refl t
  | inr f ↦ rw f (decided_at made d a k once.1 at why)
]
  where
    by : decided made a.pkg ≡ Some k → (o : Option ℕ) → decided_by b.why ≡ o → nat_eq b.pkg a.pkg ≡ true → option_or (if nat_eq b.pkg a.pkg then decided_by b.why else None) (decided made a.pkg) ≡ Some k
    by rest None e t = ap (λ s. option_or (if s then decided_by b.why else None) (decided made a.pkg)) t ∙ ap (λ o. option_or o (decided made a.pkg)) e ∙ rest
    by rest (Some l) e t =
        let apart : is_decided made b.pkg ≡ false = once.0 (ap is_some e) in
        absurd (true≢false (sym (ap is_some rest) ∙ ap (λ q. is_decided made q) (sym (eqb-true b.pkg a.pkg t)) ∙ apart))

pub exact_at : (made : List Assignment) (d : ℕ) (a : Assignment) → AreAssignments made → slice_get made d ≡ Some a → IsExact a.why a.term
exact_at [] d a all at = absurd (none-some a at)
exact_at (b ∷ made) zero a all at = subst (λ (x : Assignment). IsExact x.why x.term) (same_Some b a at) all.1
exact_at (b ∷ made) (suc d) a all at = exact_at made d a all.2 at

assignments_taken : (made : List Assignment) (n : ℕ) → AreAssignments made → AreAssignments (take n made)
assignments_taken made zero h = tt
assignments_taken [] (suc n) h = tt
assignments_taken (b ∷ made) (suc n) h = (h.0, h.1, assignments_taken made n h.2)

-- ---- in the order of the walk

module _ (packages : Packages) (wanted : Wanted) (known : List CausedIncompatibility) (made : List Assignment) (search : IsSearch packages wanted made known) (partial : IsPartial made) where
  placed_at : (d : ℕ) (a : Assignment) (k : ℕ) → slice_get made d ≡ Some a → a.why ≡ Decided k → IsPlaced packages wanted (take d made) a.pkg k
  placed_at d a k at why = subst (λ w. IsCausedBy packages wanted known (take d made) a w) why (search.caused d a at)

  ordered_at : (i : ℕ) (e : ℕ × ℕ) (p : IsDecisionAt made i e) → IsInOrder packages wanted (take p.d made) e.0 e.1
  ordered_at i e p = by e.0 p.from (subst (λ q. IsPlaced packages wanted (take p.d made) q e.1) p.pkg (placed_at p.d p.a e.1 p.at p.why))
    where
      by : (q : ℕ) → 1 ≤ q → IsPlaced packages wanted (take p.d made) q e.1 → IsInOrder packages wanted (take p.d made) q e.1
      by zero from h = absurd (omega arith)
      by (suc n) from h = h

  pub listing : IsListing packages wanted.needs (decided made) (decisions_in made)
  listing = record {
    walked = λ i e at. let p = decision_at made i e at in ap (next_package packages wanted.needs) (sym p.before) ∙ (ordered_at i e p).next;
    chosen = λ i e at. let p = decision_at made i e at in ap (decided made) (sym p.pkg) ∙ decided_at made p.d p.a e.1 partial.once p.at p.why;
  }

  pub all : AreAll (decided made) (decisions_in made)
  all p k from chosen = sym (decided-choice made p from) ∙ chosen

  -- what is listed by the decisions are the decisions
  pub listed : OneListInOrder → (found : List (ℕ × ℕ)) (next : Option NextPackage) → IsListing packages wanted.needs (decided made) found → EndsWith packages wanted.needs (decided made) found next → found ≡ decisions_in made
  listed one found next here ends = one packages wanted.needs (decided made) found (decisions_in made) next here ends listing all

  module _ (hold : KeptLinesHold) (t : Choices) (meets : Meets packages wanted t) where
    obeys : Obeys known t
    obeys k line at = hold packages wanted known search.lines.lawful search.lines.ordered t meets k line at

    shares : (i : ℕ) (e : ℕ × ℕ) (p : IsDecisionAt made i e) → Has t (take i (decisions_in made)) → Shares t made p.d
    shares i e p has j a ordinal at why = by a.pkg refl
      where
        exact : a.term ≡ In (ordinal ∷ [])
        exact = subst (λ w. IsExact w a.term) why (exact_at (take p.d made) j a (assignments_taken made p.d partial.assignments) at)

        there : slice_get made j ≡ Some a
        there = (get-taken p.d made j a at).1

        true_for : with_root t a.pkg ≡ Some ordinal → true_of a.term (with_root t a.pkg) ≡ true
        true_for is = ap (λ c. true_of a.term c) is ∙ ap (λ x. true_of x (Some ordinal)) exact ∙ says_only ordinal

        by : (q : ℕ) → a.pkg ≡ q → true_of a.term (with_root t a.pkg) ≡ true
        by zero e =
            let root : ordinal ≡ 0 = subst (λ q. IsPlaced packages wanted (take j made) q ordinal) e (placed_at j a ordinal there why) in
            true_for (ap (with_root t) e ∙ ap Some (sym root))
        by (suc n) e =
            let here : choice_of (take i (decisions_in made)) (suc n) ≡ Some ordinal =
            ap (λ (xs : List (ℕ × ℕ)). choice_of xs (suc n)) (sym p.before) ∙ sym (decided-choice (take p.d made) (suc n) (omega arith))
            ∙ ap (decided (take p.d made)) (sym e) ∙ decided_at (take p.d made) j a ordinal (once_taken made p.d partial.once) at why in
            true_for (ap (with_root t) e ∙ has (suc n) ordinal here)

    with_root-other : (q : ℕ) → 1 ≤ q → with_root t q ≡ t q
    with_root-other zero from = absurd (omega arith)
    with_root-other (suc n) from = refl

    not_better : (i j : ℕ) (e : ℕ × ℕ) → slice_get (decisions_in made) i ≡ Some e → IsAhead packages wanted e.0 j e.1 → Has t (take i (decisions_in made)) → t e.0 ≡ Some j → ⊥
    not_better i j e at ahead has chosen =
        let p = decision_at made i e at in
        elim ((ordered_at i e p).best j ahead) [
          | inl barred ↦ true≢false (sym (meets.allowed e.0 j chosen) ∙ barred)
          | inr out ↦ true≢false (sym (all_true packages wanted known made t search.caused obeys p.d (shares i e p has) e.0)
              ∙ ap (says (take p.d made) e.0) (with_root-other e.0 p.from ∙ chosen) ∙ out)
        ]

  -- a selection that meets the request and follows the decisions is the newest
  pub decided_newest : KeptLinesHold → ListIsSelection → (s : Choices) → Follows (decided made) s → Meets packages wanted s → IsNewest packages wanted s
  decided_newest hold law s follows meets = record {
    found = decisions_in made;
    selects = λ i p. law packages wanted (decided made) s (decisions_in made) listing all follows meets p i;
    meets = meets;
    best = record { turns = λ i e at. (listing.walked i e at, λ j ahead t other has chosen. not_better hold t other i j e at ahead has chosen) };
  }

-- what is selected at the end of a search
pub finished_newest : (task : Task) (search : Search) → Searches task search → IsPartial search.partial → KeptLinesHold → ListIsSelection → (s : Choices)
    → Follows (decided search.partial) s → Meets task.registry.now.packages task.request.now s → IsNewest task.registry.now.packages task.request.now s
finished_newest task search searches partial hold law s follows meets =
    decided_newest task.registry.now.packages task.request.now search.known.items search.partial searches partial hold law s follows meets

-- ---- what is asked

entry_of : (list : List (ℕ × ℕ)) (p k : ℕ) → choice_of list p ≡ Some k → (i : ℕ) × (slice_get list i ≡ Some (p, k))
entry_of [] p k h = absurd (none-some k h)
entry_of (e ∷ list) p k h = elim (cases_Bool (nat_eq p e.0)) [
  | inl t ↦
      let first : e.0 ≡ p = sym (eqb-true p e.0 t) in
      let second : e.1 ≡ k = same_Some e.1 k (rw t at h) in
      (0, ap Some (ap (λ x. (x, e.1)) first ∙ ap (λ y. (p, y)) second))
  | inr f ↦ let rest = entry_of list p k (rw f at h) in (suc rest.0, rest.1)
]

module _ (packages : Packages) (wanted : Wanted) (known : List CausedIncompatibility) (made : List Assignment) (search : IsSearch packages wanted made known) (partial : IsPartial made) where
  found_decided : (p k : ℕ) → choice_of (decisions_in made) p ≡ Some k → decided made p ≡ Some k
  found_decided p k e = let place = entry_of (decisions_in made) p k e in (listing packages wanted known made search partial).chosen place.0 (p, k) place.1

  -- what is decided of a package is allowed
  pub decided_allowed : (p k : ℕ) → 1 ≤ p → decided made p ≡ Some k → is_allowed packages wanted p k ≡ true
  decided_allowed p k from chosen =
      let place = entry_of (decisions_in made) p k (all packages wanted known made search partial p k from chosen) in
      (ordered_at packages wanted known made search partial place.0 (p, k) (decision_at made place.0 (p, k) place.1)).allowed

  -- where nothing comes next, what a need names is decided
  pub need_decided : NothingComesNext → next_package packages wanted.needs (decisions_in made) ≡ None → (j : ℕ) (line : Text × Text) (p : ℕ) → slice_get wanted.needs j ≡ Some line → number_of packages line.0 ≡ Some p
      → decided made p ≡ None → ⊥
  need_decided law none j line p at numbered undecided =
      let here = (law packages wanted.needs (decisions_in made) none).0 j line at p numbered in
      none-some here.0 (sym undecided ∙ found_decided p here.0 here.1)

  -- and what a decided version depends on
  pub dependency_decided : NothingComesNext → next_package packages wanted.needs (decisions_in made) ≡ None → (q k : ℕ) → 1 ≤ q → decided made q ≡ Some k → (j : ℕ) (line : Text × Text) (p : ℕ)
      → slice_get (needs_of packages q k) j ≡ Some line → number_of packages line.0 ≡ Some p → decided made p ≡ None → ⊥
  dependency_decided law none q k from chosen j line p at numbered undecided =
      let place = entry_of (decisions_in made) q k (all packages wanted known made search partial q k from chosen) in
      let here = (law packages wanted.needs (decisions_in made) none).1 place.0 (q, k) place.1 j line at p numbered in
      none-some here.0 (sym undecided ∙ found_decided p here.0 here.1)

-- ---- the package that comes next

-- the line that names it is not met by the decisions
pub asked_unmet : (packages : Packages) (chooses : Choices) (lines : List (Text × Text)) (index p : ℕ) (line : Text × Text) → slice_get lines index ≡ Some line → number_of packages line.0 ≡ Some p → chooses p ≡ None
    → IsUnmetAt packages chooses lines index
asked_unmet packages chooses lines index p line at numbered none = record {
  name = line.0;
  need = line.1;
  at = at;
  unmet = λ target k here chosen. absurd (none-some k (sym none ∙ ap chooses (same_Some p target (sym numbered ∙ here)) ∙ chosen));
}

-- and it is the turn of what that line names
pub asked_turn : (task : Task) (made : List Assignment) (lines : List (Text × Text)) (index p : ℕ) (line : Text × Text) → slice_get lines index ≡ Some line → number_of task.registry.now.packages line.0 ≡ Some p → IsTurnOf task made p
    → IsTurnAt task made lines index
asked_turn task made lines index p line at numbered turn other q at' numbered' undecided =
    let same : line ≡ other = same_Some line other (sym at ∙ at') in
    let is : p ≡ q = same_Some p q (sym numbered ∙ ap (λ (x : Text × Text). number_of task.registry.now.packages x.0) same ∙ numbered') in
    subst (λ n. IsTurnOf task made n) is turn

-- ---- a decision in its place

numbered_from : (packages : Packages) (p : ℕ) → IsSome (package_at packages p) → 1 ≤ p
unfolding package_at
numbered_from packages zero h = absurd (true≢false (sym h))
numbered_from packages (suc n) h = omega arith

-- a decision on the package whose turn it is, for the best version that is left, is placed
pub placed : (task : Task) (made : List Assignment) (p k : ℕ) → IsSome (package_at task.registry.now.packages p) → IsTurnOf task made p → is_allowed task.registry.now.packages task.request.now p k ≡ true
    → IsBestLeft task.registry.now.packages task.request.now made p k → IsPlaced task.registry.now.packages task.request.now made p k
placed task made p k numbered turn allowed best = by p (numbered_from task.registry.now.packages p numbered) turn allowed best
  where
    by : (q : ℕ) → 1 ≤ q → IsTurnOf task made q → is_allowed task.registry.now.packages task.request.now q k ≡ true → IsBestLeft task.registry.now.packages task.request.now made q k
        → IsPlaced task.registry.now.packages task.request.now made q k
    by zero from next allowed best = absurd (omega arith)
    by (suc n) from next allowed best = record { next = next; allowed = allowed; best = best }

-- whose turn it is, by a line that was read
turn_at : (task : Task) (made : List Assignment) (lines : List (Text × Text)) (index p : ℕ) (line : Text × Text) → IsTurnAt task made lines index → slice_get lines index ≡ Some line
    → number_of task.registry.now.packages line.0 ≡ Some p → is_decided made p ≡ false → IsTurnOf task made p
turn_at task made lines index p line turn at numbered undecided = turn line p at numbered (not_some (decided made p) undecided)

-- also where nothing was assigned since
pub turn_kept : (task : Task) (made new : List Assignment) (lines : List (Text × Text)) (index p : ℕ) (line : Text × Text) → IsTurnAt task made lines index → slice_get lines index ≡ Some line
    → number_of task.registry.now.packages line.0 ≡ Some p → new ≡ made → is_decided new p ≡ false → IsTurnOf task new p
turn_kept task made new lines index p line turn at numbered same undecided =
    subst (λ (m : List Assignment). IsTurnOf task m p) (sym same) (turn_at task made lines index p line turn at numbered (subst (λ (m : List Assignment). is_decided m p ≡ false) same undecided))

-- ---- where nothing comes next, and what does

module _ (task : Task) (search : Search) (searches : Searches task search) (partial : IsPartial search.partial) where
  -- the packages of needs are decided
  pub need_ended : NothingComesNext → IsEndOfOrder task search.partial → (index : ℕ) → IsTurnAt task search.partial task.request.now.needs index
  need_ended law ended index line p at numbered undecided =
      absurd (need_decided task.registry.now.packages task.request.now search.known.items search.partial searches partial law ended index line p at numbered undecided)

  -- and those of dependencies of what is decided
  pub dependency_ended : NothingComesNext → IsEndOfOrder task search.partial → (q k : ℕ) → IsSome (package_at task.registry.now.packages q) → decided search.partial q ≡ Some k → (index : ℕ)
      → IsTurnAt task search.partial (needs_of task.registry.now.packages q k) index
  dependency_ended law ended q k named chosen index line p at numbered undecided =
      absurd (dependency_decided task.registry.now.packages task.request.now search.known.items search.partial searches partial law ended q k
      (numbered_from task.registry.now.packages q named) chosen index line p at numbered undecided)

  -- what is decided is allowed
  pub none_forbidden : {p k : ℕ} → IsForbidden task.registry.now.packages task.request.now (decided search.partial) p k → ⊥
  none_forbidden {p} {k} forbidden =
      let from = numbered_from task.registry.now.packages p (reached-numbered task.registry.now.packages task.request.now.needs (decided search.partial) p forbidden.chosen.reached) in
      true≢false (sym (decided_allowed task.registry.now.packages task.request.now search.known.items search.partial searches partial p k from forbidden.chosen.chosen) ∙ forbidden.forbidden)

  -- what the walk lists are the decisions
  listed_decisions : OneListInOrder → (found : List (ℕ × ℕ)) (next : Option NextPackage) → IsListing task.registry.now.packages task.request.now.needs (decided search.partial) found
      → EndsWith task.registry.now.packages task.request.now.needs (decided search.partial) found next → found ≡ decisions_in search.partial
  listed_decisions one found next listing ends =
      listed task.registry.now.packages task.request.now search.known.items search.partial searches partial one found next listing ends

  pub next_turn : OneListInOrder → (found : List (ℕ × ℕ)) → IsListing task.registry.now.packages task.request.now.needs (decided search.partial) found → (next : NextPackage)
      → IsNext task.registry.now.packages task.request.now.needs (decided search.partial) found next → IsTurnOf task search.partial next.pkg
  next_turn one found listing next comes =
      ap (next_package task.registry.now.packages task.request.now.needs) (sym (listed_decisions one found (Some next) listing comes)) ∙ comes.comes

  pub next_end : OneListInOrder → (found : List (ℕ × ℕ)) → IsListing task.registry.now.packages task.request.now.needs (decided search.partial) found
      → next_package task.registry.now.packages task.request.now.needs found ≡ None → IsEndOfOrder task search.partial
  next_end one found listing none = ap (next_package task.registry.now.packages task.request.now.needs) (sym (listed_decisions one found None listing none)) ∙ none
