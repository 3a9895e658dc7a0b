-- Lists in the order of the walk: what comes next, and that a visit keeps the order.
use Rattle.std.proofs.Common.{◌≡◌, ◌<◌, ◌≤◌, ◌+◌, ◌∙◌, ℕ, zero, suc, refl, sym, ap, subst, arith, ◌⊎◌, inl, inr, List, [], ◌∷◌, ◌++◌, Contains, length, take, if◌then◌else◌}
use Rattle.std.proofs.lemmas.Bool.{cases_Bool}
use Rattle.std.proofs.lemmas.List.{append-nil, take-append-le}
use Rattle.std.proofs.lemmas.Option.{none-some, same_Some, slice_get_within}
use Rattle.std.proofs.lemmas.List.Elements.{Contains-append_cases, Contains-append_left, Contains-append_right}
use Rattle.std.proofs.lemmas.List.Sorted.{Contains-permutation, IsPermutation-cons, IsPermutation-middle, IsPermutation-refl, IsPermutation-sym, IsPermutation-trans}
use Rattle.std.proofs.Math.Seq.{take-append_seam}
use Rattle.std.specs.Cmp.Lexicographic.{slice_cmp}
use Rattle.std.specs.List.Sorted.{IsPermutation}
use Rattle.std.specs.Ordering.{is_lt, nat_cmp}
use Rattle.std.specs.Prelude.{IfNone, IfSome, None, Option, Some, is_some, slice_get}
use Rattle.versions.specs.Words.{Text}
use Rattle.registry.specs.Registry.{Packages, needs_of, number_of}
use Rattle.registry.specs.Selections.{Choices}
use Rattle.walk.specs.Choosing.{choice_of}
use Rattle.walk.specs.declared.reached.Asker.TheVariants as asker
use Rattle.walk.specs.Listing.{AllPassed, ArePassed, IsListing, IsNext, IsPassed, IsPassedTo, Passes}
use Rattle.walk.specs.Newest.{AreWalked, dependencies_of, first_new, in_name_order, insert_by_name, new_or_later, next_package}
use Rattle.walk.specs.Walks.{Grows}
use Rattle.walk.proofs.Lists.{choice-left, choice-push_here, contains_at, get-before, get-left, one_more, pushed_at}

-- ---- what was passed stays so

pub passed_grown : (packages : Packages) (old new : List (ℕ × ℕ)) (line : Text × Text) → Grows old new → IsPassed packages old line → IsPassed packages new line
passed_grown packages old new line g h p numbered = let here = h p numbered in (here.0, rw g.1 (choice-left old g.0 p here.0 here.1))

pub all_grown : (packages : Packages) (old new : List (ℕ × ℕ)) (lines : List (Text × Text)) → Grows old new → AllPassed packages old lines → AllPassed packages new lines
all_grown packages old new lines g h j line at = passed_grown packages old new line g (h j line at)

-- one more line, where it was passed
pub passed_more : (packages : Packages) (old new : List (ℕ × ℕ)) (lines : List (Text × Text)) (i : ℕ) (line : Text × Text) → Grows old new → ArePassed packages old lines i → slice_get lines i ≡ Some line
    → IsPassed packages new line → ArePassed packages new lines (i + 1)
passed_more packages old new lines i line g before at here = one_more (IsPassed packages new) lines i line (λ j other lt at_j. passed_grown packages old new other g (before j other lt at_j)) at here

-- all of them, where each place was passed
pub passed_all : (packages : Packages) (found : List (ℕ × ℕ)) (lines : List (Text × Text)) (i : ℕ) → length lines ≤ i → ArePassed packages found lines i → AllPassed packages found lines
passed_all packages found lines i all h j line at = let lt = slice_get_within lines j line at in h j line (omega (arith, lt, all)) at

-- ---- what comes next

module _ (packages : Packages) (found : List (ℕ × ℕ)) where
  -- the first line's package is new, or was passed and the others tell
  abbrev Begins : Text × Text → List (Text × Text) → Type 0
  Begins line rest = ((p : ℕ) × (number_of packages line.0 ≡ Some p) × (choice_of found p ≡ None) × (first_new packages found (line ∷ rest) ≡ Some p))
      ⊎ (IsPassed packages found line × (first_new packages found (line ∷ rest) ≡ first_new packages found rest))

  begins : (line : Text × Text) (rest : List (Text × Text)) → Begins line rest
  begins line rest = by (number_of packages line.0) refl
    where
      by : (o : Option ℕ) → number_of packages line.0 ≡ o → Begins line rest
      by None at = inr (λ p numbered. absurd (none-some p (sym at ∙ numbered)), ap (λ o. new_or_later found o (first_new packages found rest)) at)
      by (Some q) at = here (choice_of found q) refl
        where
          is : (o : Option ℕ) → choice_of found q ≡ o → first_new packages found (line ∷ rest) ≡ (if is_some o then first_new packages found rest else Some q)
          is o f = ap (λ n. new_or_later found n (first_new packages found rest)) at ∙ ap (λ (n : Option ℕ). if is_some n then first_new packages found rest else Some q) f

          here : (o : Option ℕ) → choice_of found q ≡ o → Begins line rest
          here None f = inl (q, at, f, is None f)
          here (Some k) f = inr (λ p numbered. (k, ap (choice_of found) (same_Some p q (sym numbered ∙ at)) ∙ f), is (Some k) f)

  -- behind a line that was passed the others tell
  pub first_behind : (line : Text × Text) (rest : List (Text × Text)) → IsPassed packages found line → first_new packages found (line ∷ rest) ≡ first_new packages found rest
  first_behind line rest passed = elim (begins line rest) [
    | inl new ↦ let there = passed new.0 new.1 in absurd (none-some there.0 (sym new.2 ∙ there.1))
    | inr behind ↦ behind.1
  ]

  first_passed : (lines rest : List (Text × Text)) → AllPassed packages found lines → first_new packages found (lines ++ rest) ≡ first_new packages found rest
  first_passed [] rest h = refl
  first_passed (line ∷ lines) rest h = first_behind line (lines ++ rest) (h 0 line refl) ∙ first_passed lines rest (λ j. h (suc j))

  pub first_here : (line : Text × Text) (rest : List (Text × Text)) (p : ℕ) → number_of packages line.0 ≡ Some p → choice_of found p ≡ None → first_new packages found (line ∷ rest) ≡ Some p
  first_here line rest p numbered none =
      ap (λ o. new_or_later found o (first_new packages found rest)) numbered
      ∙ ap (λ (o : Option ℕ). if is_some o then first_new packages found rest else Some p) none

  -- the line at a place, behind lines that were passed
  first_at : (lines rest : List (Text × Text)) (i : ℕ) (line : Text × Text) (p : ℕ) → slice_get lines i ≡ Some line → ArePassed packages found lines i → number_of packages line.0 ≡ Some p → choice_of found p ≡ None
      → first_new packages found (lines ++ rest) ≡ Some p
  first_at [] rest i line p at before numbered none = absurd (none-some line at)
  first_at (l ∷ lines) rest zero line p at before numbered none =
      let same : l ≡ line = same_Some l line at in
      first_here l (lines ++ rest) p (ap (λ (x : Text × Text). number_of packages x.0) same ∙ numbered) none
  first_at (l ∷ lines) rest (suc i) line p at before numbered none =
      first_behind l (lines ++ rest) (before 0 l (omega arith) refl) ∙ first_at lines rest i line p at (λ j other lt. before (suc j) other (omega (arith, lt))) numbered none

  -- what comes first is the package of a line, and was not found yet
  first_line : (lines : List (Text × Text)) (p : ℕ) → first_new packages found lines ≡ Some p → (line : Text × Text) × Contains lines line × (number_of packages line.0 ≡ Some p) × (choice_of found p ≡ None)
  first_line [] p e = absurd (none-some p e)
  first_line (line ∷ rest) p e = elim (begins line rest) [
    | inl new ↦ let same : new.0 ≡ p = same_Some new.0 p (sym new.3 ∙ e) in (line, (0, omega arith, refl), new.1 ∙ ap Some same, ap (choice_of found) (sym same) ∙ new.2)
    | inr passed ↦ let there = first_line rest p (sym passed.1 ∙ e) in (there.0, Contains-append_right (line ∷ []) rest there.0 there.1, there.2, there.3)
  ]

  -- where none comes, each line was passed
  pub none_first : (lines : List (Text × Text)) → first_new packages found lines ≡ None → (line : Text × Text) → Contains lines line → IsPassed packages found line
  none_first [] none line among = absurd (omega (arith, among.1))
  none_first (l ∷ rest) none line among = elim (begins l rest) [
    | inl new ↦ absurd (none-some new.0 (sym none ∙ new.3))
    | inr passed ↦ elim (Contains-append_cases (l ∷ []) rest line among) [
      | inl first ↦ let at = contains_at (l ∷ []) line first in alone at.0 at.1 passed.0
      | inr later ↦ none_first rest (sym passed.1 ∙ none) line later
    ]
  ]
    where
      alone : (i : ℕ) → slice_get (l ∷ []) i ≡ Some line → IsPassed packages found l → IsPassed packages found line
      alone zero at h = subst (IsPassed packages found) (same_Some l line at) h
      alone (suc i) at h = absurd (none-some line at)

  -- what the versions depend on, from a place on, behind versions whose dependencies were passed
  first_asked : (entries : List (ℕ × ℕ)) (place : ℕ) (e : ℕ × ℕ) → slice_get entries place ≡ Some e
      → ((j : ℕ) (f : ℕ × ℕ) → j < place → slice_get entries j ≡ Some f → AllPassed packages found (needs_of packages f.0 f.1))
      → (after : List (Text × Text)) × (first_new packages found (dependencies_of packages entries) ≡ first_new packages found (needs_of packages e.0 e.1 ++ after))
  first_asked [] place e at before = absurd (none-some e at)
  first_asked (x ∷ entries) zero e at before =
      let same : x ≡ e = same_Some x e at in
      (dependencies_of packages entries, ap (λ (y : ℕ × ℕ). first_new packages found (needs_of packages y.0 y.1 ++ dependencies_of packages entries)) same)
  first_asked (x ∷ entries) (suc place) e at before =
      let rest = first_asked entries place e at (λ j f lt here. before (suc j) f (omega (arith, lt)) here) in
      (rest.0, first_passed (needs_of packages x.0 x.1) (dependencies_of packages entries) (before 0 x (omega arith) refl) ∙ rest.1)

  none_asked : (entries : List (ℕ × ℕ)) → ((j : ℕ) (f : ℕ × ℕ) → slice_get entries j ≡ Some f → AllPassed packages found (needs_of packages f.0 f.1))
      → first_new packages found (dependencies_of packages entries) ≡ None
  none_asked [] h = refl
  none_asked (x ∷ entries) h = first_passed (needs_of packages x.0 x.1) (dependencies_of packages entries) (h 0 x refl) ∙ none_asked entries (λ j f at. h (suc j) f at)

  pub next_need : (needs : List (Text × Text)) (i : ℕ) (line : Text × Text) (p : ℕ) → slice_get (in_name_order needs) i ≡ Some line → ArePassed packages found (in_name_order needs) i
      → number_of packages line.0 ≡ Some p → choice_of found p ≡ None → next_package packages needs found ≡ Some p
  next_need needs i line p at before numbered none = first_at (in_name_order needs) (dependencies_of packages found) i line p at before numbered none

  pub next_dependency : (needs : List (Text × Text)) (place : ℕ) (e : ℕ × ℕ) (i : ℕ) (line : Text × Text) (p : ℕ) → IsPassedTo packages needs found place → slice_get found place ≡ Some e
      → slice_get (needs_of packages e.0 e.1) i ≡ Some line → ArePassed packages found (needs_of packages e.0 e.1) i → number_of packages line.0 ≡ Some p → choice_of found p ≡ None
      → next_package packages needs found ≡ Some p
  next_dependency needs place e i line p to at_e at before numbered none =
      let asked = first_asked found place e at_e to.before in
      first_passed (in_name_order needs) (dependencies_of packages found) to.asked ∙ asked.1
      ∙ first_at (needs_of packages e.0 e.1) asked.0 i line p at before numbered none

  pub next_none : (needs : List (Text × Text)) (place : ℕ) → length found ≤ place → IsPassedTo packages needs found place → next_package packages needs found ≡ None
  next_none needs place all to =
      first_passed (in_name_order needs) (dependencies_of packages found) to.asked
      ∙ none_asked found (λ j f at. let lt = slice_get_within found j f at in to.before j f (omega (arith, lt, all)) at)

-- ---- who asks

inserted : (need : Text × Text) (xs : List (Text × Text)) → IsPermutation (need ∷ xs) (insert_by_name need xs)
inserted need [] = IsPermutation-refl (need ∷ [])
inserted need (x ∷ xs) = elim (cases_Bool (is_lt (slice_cmp nat_cmp x.0 need.0))) [
  | inl t ↦
      rw t (IsPermutation-trans (need ∷ x ∷ xs) (x ∷ need ∷ xs) (x ∷ insert_by_name need xs) (IsPermutation-middle (need ∷ []) x xs)
      (IsPermutation-cons x (need ∷ xs) (insert_by_name need xs) (inserted need xs)))
  | inr f ↦ rw f (IsPermutation-refl (need ∷ x ∷ xs))
]

pub ordered : (xs : List (Text × Text)) → IsPermutation xs (in_name_order xs)
ordered [] = IsPermutation-refl []
ordered (x ∷ xs) = IsPermutation-trans (x ∷ xs) (x ∷ in_name_order xs) (in_name_order (x ∷ xs)) (IsPermutation-cons x xs (in_name_order xs) (ordered xs)) (inserted x (in_name_order xs))

pub need_in : (needs : List (Text × Text)) (line : Text × Text) → Contains (in_name_order needs) line → Contains needs line
need_in needs line = Contains-permutation (in_name_order needs) needs line (IsPermutation-sym needs (in_name_order needs) (ordered needs))

module _ (packages : Packages) where
  -- a version that was found asks for the line
  abbrev pub IsAskedIn : List (ℕ × ℕ) → Text × Text → Type 0
  IsAskedIn found line = (i : ℕ) × (e : ℕ × ℕ) × (slice_get found i ≡ Some e) × Contains (needs_of packages e.0 e.1) line

  asked_in : (found : List (ℕ × ℕ)) (line : Text × Text) → Contains (dependencies_of packages found) line → IsAskedIn found line
  asked_in [] line among = absurd (omega (arith, among.1))
  asked_in (x ∷ found) line among = elim (Contains-append_cases (needs_of packages x.0 x.1) (dependencies_of packages found) line among) [
    | inl here ↦ (0, x, refl, here)
    | inr later ↦ let there = asked_in found line later in (suc there.0, there.1, there.2, there.3)
  ]

  pub depended : (found : List (ℕ × ℕ)) (i : ℕ) (e : ℕ × ℕ) (line : Text × Text) → slice_get found i ≡ Some e → Contains (needs_of packages e.0 e.1) line → Contains (dependencies_of packages found) line
  depended [] i e line at among = absurd (none-some e at)
  depended (x ∷ found) zero e line at among =
      Contains-append_left (needs_of packages x.0 x.1) (dependencies_of packages found) line (subst (λ (y : ℕ × ℕ). Contains (needs_of packages y.0 y.1) line) (sym (same_Some x e at)) among)
  depended (x ∷ found) (suc i) e line at among = Contains-append_right (needs_of packages x.0 x.1) (dependencies_of packages found) line (depended found i e line at among)

  -- what comes next is asked for, and was not found yet
  pub next_named : (needs : List (Text × Text)) (found : List (ℕ × ℕ)) (p : ℕ) → next_package packages needs found ≡ Some p
      → (line : Text × Text) × (number_of packages line.0 ≡ Some p) × (choice_of found p ≡ None) × (Contains needs line ⊎ IsAskedIn found line)
  next_named needs found p e =
      let there = first_line packages found (in_name_order needs ++ dependencies_of packages found) p e in
      let asks : Contains needs there.0 ⊎ IsAskedIn found there.0 = elim (Contains-append_cases (in_name_order needs) (dependencies_of packages found) there.0 there.1) [
        | inl need ↦ inl (need_in needs there.0 need)
        | inr later ↦ inr (asked_in found there.0 later)
      ] in
      (there.0, there.2, there.3, asks)

-- ---- a visit

-- what holds of each behind those before it, and of one more behind them all
pub each_pushed : (P : List (ℕ × ℕ) → ℕ × ℕ → Type 0) (found : List (ℕ × ℕ)) (x : ℕ × ℕ) → ((i : ℕ) (e : ℕ × ℕ) → slice_get found i ≡ Some e → P (take i found) e) → P found x
    → (i : ℕ) (e : ℕ × ℕ) → slice_get (found ++ x ∷ []) i ≡ Some e → P (take i (found ++ x ∷ [])) e
each_pushed P found x each here i e at = elim (pushed_at found x i e at) [
  | inl before ↦
      let lt = slice_get_within found i e before in
      subst (λ xs. P xs e) (sym (take-append-le i found (x ∷ []) (omega (arith, lt)))) (each i e before)
  | inr last ↦
      let whole : take i (found ++ x ∷ []) ≡ found = ap (λ n. take n (found ++ x ∷ [])) last.0 ∙ take-append_seam found (x ∷ []) in
      subst (λ xs. P xs e) (sym whole) (subst (P found) last.1 here)
]

pub walked_push : (packages : Packages) (needs : List (Text × Text)) (found : List (ℕ × ℕ)) (p k : ℕ) → AreWalked packages needs found → next_package packages needs found ≡ Some p → AreWalked packages needs (found ++ (p, k) ∷ [])
walked_push packages needs found p k walked next = each_pushed (λ before (e : ℕ × ℕ). next_package packages needs before ≡ Some e.0) found (p, k) walked next

module _ (packages : Packages) (needs : List (Text × Text)) (chooses : Choices) where
  pub listing_push : (found : List (ℕ × ℕ)) (p k : ℕ) → IsListing packages needs chooses found → next_package packages needs found ≡ Some p → chooses p ≡ Some k
      → IsListing packages needs chooses (found ++ (p, k) ∷ [])
  listing_push found p k listing next chosen = record {
    walked = walked_push packages needs found p k listing.walked next;
    chosen = λ i e at. elim (pushed_at found (p, k) i e at) [
      | inl before ↦ listing.chosen i e before
      | inr last ↦ subst (λ (x : ℕ × ℕ). chooses x.0 ≡ Some x.1) last.1 chosen
    ];
  }

  -- what a visit keeps, and what it answers: the package that comes next, of which nothing is chosen
  pub record IsPass (line : Text × Text) (old new : List (ℕ × ℕ)) (stopped : Option ℕ) : Type 0 where
    pub listing : IsListing packages needs chooses new
    pub grown : Grows old new
    pub passed : IfNone stopped (IsPassed packages new line)
    pub comes : IfSome stopped (λ p. (number_of packages line.0 ≡ Some p) × (next_package packages needs new ≡ Some p) × (chooses p ≡ None))

  pub pass : (line : Text × Text) (old new : List (ℕ × ℕ)) (stopped : Option ℕ) → IsListing packages needs chooses old
      → ((p : ℕ) → number_of packages line.0 ≡ Some p → choice_of old p ≡ None → next_package packages needs old ≡ Some p)
      → Passes packages chooses line old new stopped → IsPass line old new stopped
  pass line old new (Some p) listing nexts (numbered, (same, none, unchosen)) = record {
    listing = subst (λ (l : List (ℕ × ℕ)). IsListing packages needs chooses l) (sym same) listing;
    grown = ([], same ∙ sym (append-nil old));
    passed = tt;
    comes = (numbered, ap (next_package packages needs) same ∙ nexts p numbered none, unchosen);
  }
  pass line old new None listing nexts (inr (unnumbered, same)) = record {
    listing = subst (λ (l : List (ℕ × ℕ)). IsListing packages needs chooses l) (sym same) listing;
    grown = ([], same ∙ sym (append-nil old));
    passed = λ q numbered. absurd (none-some q (sym unnumbered ∙ numbered));
    comes = tt;
  }
  pass line old new None listing nexts (inl (p, numbered, inl (same, k, has))) = record {
    listing = subst (λ (l : List (ℕ × ℕ)). IsListing packages needs chooses l) (sym same) listing;
    grown = ([], same ∙ sym (append-nil old));
    passed = λ q numbered'. (k, ap (λ (l : List (ℕ × ℕ)). choice_of l q) same ∙ ap (choice_of old) (same_Some q p (sym numbered' ∙ numbered)) ∙ has);
    comes = tt;
  }
  pass line old new None listing nexts (inl (p, numbered, inr (k, none, chosen, grown))) = record {
    listing = subst (λ (l : List (ℕ × ℕ)). IsListing packages needs chooses l) (sym grown) (listing_push old p k listing (nexts p numbered none) chosen);
    grown = ((p, k) ∷ [], grown);
    passed = λ q numbered'. (k, ap (λ (l : List (ℕ × ℕ)). choice_of l q) grown ∙ ap (choice_of (old ++ (p, k) ∷ [])) (same_Some q p (sym numbered' ∙ numbered)) ∙ choice-push_here old p k none);
    comes = tt;
  }

  -- a package that comes next, by the need at a place
  pub next_by_need : (found : List (ℕ × ℕ)) (index p : ℕ) (line : Text × Text) → slice_get needs index ≡ Some line → number_of packages line.0 ≡ Some p → next_package packages needs found ≡ Some p → chooses p ≡ None
      → IsNext packages needs chooses found (record { pkg = p; asker = asker.Request; index = index })
  next_by_need found index p line at numbered comes none = record { comes = comes; none = none; asked = record { line = line; asks = tt; at = at; numbered = numbered } }

  -- by a dependency at a place
  pub next_by_dependency : (found : List (ℕ × ℕ)) (q k index p : ℕ) (line : Text × Text) → chooses q ≡ Some k → slice_get (needs_of packages q k) index ≡ Some line → number_of packages line.0 ≡ Some p
      → next_package packages needs found ≡ Some p → chooses p ≡ None → IsNext packages needs chooses found (record { pkg = p; asker = asker.Version q k; index = index })
  next_by_dependency found q k index p line chosen at numbered comes none = record { comes = comes; none = none; asked = record { line = line; asks = chosen; at = at; numbered = numbered } }

-- ---- the versions before a place

pub to_grown : (packages : Packages) (needs : List (Text × Text)) (old new : List (ℕ × ℕ)) (place : ℕ) (e : ℕ × ℕ) → Grows old new → slice_get old place ≡ Some e → IsPassedTo packages needs old place
    → IsPassedTo packages needs new place
to_grown packages needs old new place e g at to = record {
  asked = all_grown packages old new (in_name_order needs) g to.asked;
  before = λ j f lt here. all_grown packages old new (needs_of packages f.0 f.1) g (to.before j f lt (get-before old g.0 place j f e at lt (rw g.1 at here)));
}

pub at_grown : (old new : List (ℕ × ℕ)) (place : ℕ) (e : ℕ × ℕ) → Grows old new → slice_get old place ≡ Some e → slice_get new place ≡ Some e
at_grown old new place e g at = rw g.1 (get-left old g.0 place e at)

pub to_more : (packages : Packages) (needs : List (Text × Text)) (found : List (ℕ × ℕ)) (place : ℕ) (e : ℕ × ℕ) → slice_get found place ≡ Some e → IsPassedTo packages needs found place
    → AllPassed packages found (needs_of packages e.0 e.1) → IsPassedTo packages needs found (place + 1)
to_more packages needs found place e at to here = record {
  asked = to.asked;
  before = one_more (λ (x : ℕ × ℕ). AllPassed packages found (needs_of packages x.0 x.1)) found place e to.before at here;
}
