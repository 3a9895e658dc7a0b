-- That a request which some selection meets has a newest selection: down the walk, of each package the most preferred version with which a selection that meets the request goes on.
use Rattle.std.proofs.Common.{◌≡◌, ◌≤◌, ◌<◌, ◌∙◌, ◌+◌, ◌⊎◌, inl, inr, ℕ, zero, suc, List, [], ◌∷◌, ◌++◌, length, take, refl, sym, ap, subst, arith, true, false, true≢false, ◌&&◌, ◌||◌, not, Bool}
use Rattle.std.proofs.lemmas.Bool.{cases_Bool, cases_eq}
use Rattle.std.proofs.lemmas.List.{append-nil, append_assoc, length-append}
use Rattle.std.proofs.lemmas.Option.{none-some, same_Some}
use Rattle.std.specs.Prelude.{None, Option, Some, is_some, slice_get}
use Rattle.std.specs.Ordering.{is_lt}
use Rattle.versions.specs.Precedence.{PrecedenceIsATotalPreorder}
use Rattle.versions.specs.Words.{Text, precedence}
use Rattle.registry.specs.Laws.{AllowedIsPublished, PublishedBelow, PublishedIsNumbered}
use Rattle.registry.specs.Registry.{Package, Packages, Publication, is_published, meets_at, needs_of, number_of, package_at, publication_at, versions_or_none}
use Rattle.registry.specs.Requests.{Wanted, is_allowed, is_locked}
use Rattle.registry.specs.Selections.{Choices, IsMet, Meets}
use Rattle.walk.specs.Choosing.{choice_of}
use Rattle.walk.specs.Newest.{AreWalked, IsAhead, IsNewest, IsOut, IsTurn, OfEach, is_preferred_to, next_package}
use Rattle.walk.specs.Walks.{AreAllChecked, AreMet, IsChecked}
use Rattle.walk.proofs.Bests.{out_tried, published_within}
use Rattle.walk.proofs.Better.{less_is, not_ahead}
use Rattle.walk.proofs.Checked.{checked_meets}
use Rattle.walk.proofs.Choices.{once_short}
use Rattle.walk.proofs.Listings.{walked_push}
use Rattle.walk.proofs.Lists.{choice-entry, choice-push_cases, contains_at, get-contains, some_value}
use Rattle.walk.proofs.NewestLaws.{met_by, own_choice, walked_once}
use Rattle.walk.proofs.NewestPreferred.{next_met}
use Rattle.walk.proofs.Publications.{publication_at-package}
use Rattle.walk.proofs.Wholes.{whole}

-- ---- what can be decided

abbrev Decided : Type 0 → Type 0
Decided A = A ⊎ (A → ⊥)

all_decided : {A : Type 0} (P : A → Type 0) (xs : List A) → ((x : A) → Decided (P x)) → Decided ((i : ℕ) (x : A) → slice_get xs i ≡ Some x → P x)
all_decided P [] decided = inl (λ i x at. absurd (none-some x at))
all_decided {A} P (y ∷ xs) decided = elim (decided y) [
  | inl first ↦ elim (all_decided P xs decided) [
    | inl rest ↦ inl (both_here first rest)
    | inr fails ↦ inr (λ all. fails (λ i. all (suc i)))
  ]
  | inr fails ↦ inr (λ all. fails (all 0 y refl))
]
  where
    both_here : P y → ((i : ℕ) (x : A) → slice_get xs i ≡ Some x → P x) → (i : ℕ) (x : A) → slice_get (y ∷ xs) i ≡ Some x → P x
    both_here first rest zero x at = subst P (same_Some y x at) first
    both_here first rest (suc i) x at = rest i x at

module _ (packages : Packages) (wanted : Wanted) (s : Choices) where
  met_decided : (line : Text × Text) → Decided (IsMet packages s line.0 line.1)
  met_decided line = by (number_of packages line.0) refl
    where
      by : (o : Option ℕ) → number_of packages line.0 ≡ o → Decided (IsMet packages s line.0 line.1)
      by None e = inr (λ m. none-some m.target (sym e ∙ m.numbered))
      by (Some p) e = chosen (s p) refl
        where
          chosen : (o : Option ℕ) → s p ≡ o → Decided (IsMet packages s line.0 line.1)
          chosen None f = inr (λ m. none-some m.ordinal (sym f ∙ ap s (same_Some p m.target (sym e ∙ m.numbered)) ∙ m.selected))
          chosen (Some k) f = elim (cases_Bool (meets_at packages p k line.1)) [
            | inl t ↦ inl (record { target = p; ordinal = k; numbered = e; selected = f; meeting = t })
            | inr fails ↦ inr (λ m. true≢false (sym (met_by packages s line.0 line.1 p k m e f) ∙ fails))
          ]

  lines_decided : (lines : List (Text × Text)) → Decided (AreMet packages s lines)
  lines_decided lines = elim (all_decided (λ (line : Text × Text). IsMet packages s line.0 line.1) lines met_decided) [
    | inl all ↦ inl (λ name need among. let at = contains_at lines (name, need) among in all at.0 (name, need) at.1)
    | inr fails ↦ inr (λ all. fails (λ i line at. all line.0 line.1 (get-contains lines i line at)))
  ]

  checked_decided : (e : ℕ × ℕ) → Decided (IsChecked packages wanted s e.0 e.1)
  checked_decided e = elim (cases_Bool (is_allowed packages wanted e.0 e.1)) [
    | inl t ↦ elim (lines_decided (needs_of packages e.0 e.1)) [
      | inl met ↦ inl (record { allowed = t; met = met })
      | inr fails ↦ inr (λ c. fails c.met)
    ]
    | inr f ↦ inr (λ c. true≢false (sym c.allowed ∙ f))
  ]

-- ---- the order of preference

pub not_preferred : (packages : Packages) (wanted : Wanted) (p j k : ℕ) (pack : Package) (u v : Publication) → package_at packages p ≡ Some pack → publication_at packages p j ≡ Some u → publication_at packages p k ≡ Some v
    → is_preferred_to wanted pack.name u v ≡ false → IsAhead packages wanted p j k → ⊥
not_preferred packages wanted p j k pack u v at at_j at_k lower x =
    true≢false (sym x.preferred ∙ ap (λ (q : Package). is_preferred_to wanted q.name x.one x.other) (same_Some x.pack pack (sym x.of ∙ at))
    ∙ ap (λ w. is_preferred_to wanted pack.name w x.other) (same_Some x.one u (sym x.first ∙ at_j)) ∙ ap (is_preferred_to wanted pack.name u) (same_Some x.other v (sym x.second ∙ at_k)) ∙ lower)

module _ (total : PrecedenceIsATotalPreorder) (packages : Packages) (wanted : Wanted) (p : ℕ) where
  abbrev above : Bool → Bool → Bool → Bool
  above one other higher = (one && not other) || ((one || not other) && higher)

  above_trans : (a b c x y z : Bool) → (x ≡ true → y ≡ true → z ≡ true) → above a b x ≡ true → above b c y ≡ true → above a c z ≡ true
  above_trans true true true x y z h e f = h e f
  above_trans true true false x y z h e f = refl
  above_trans true false true x y z h e f = absurd (true≢false (sym f))
  above_trans true false false x y z h e f = refl
  above_trans false true c x y z h e f = absurd (true≢false (sym e))
  above_trans false false true x y z h e f = absurd (true≢false (sym f))
  above_trans false false false x y z h e f = h e f

  ahead_trans : (i j k : ℕ) → IsAhead packages wanted p i j → IsAhead packages wanted p j k → IsAhead packages wanted p i k
  ahead_trans i j k x y = record {
    pack = x.pack;
    one = x.one;
    other = y.other;
    of = x.of;
    first = x.first;
    second = y.second;
    preferred =
        above_trans (is_locked wanted.lock x.pack.name x.one.version) (is_locked wanted.lock x.pack.name x.other.version) (is_locked wanted.lock x.pack.name y.other.version) (is_lt (precedence x.other.version x.one.version))
        (is_lt (precedence y.other.version x.other.version)) (is_lt (precedence y.other.version x.one.version))
        (λ e f. ap is_lt (total.trans y.other.version x.other.version x.one.version (less_is y.other.version x.other.version f) (less_is x.other.version x.one.version e)))
        x.preferred (subst (λ (v : Publication). is_preferred_to wanted x.pack.name v y.other ≡ true) middle (subst (λ (q : Package). is_preferred_to wanted q.name y.one y.other ≡ true) same y.preferred));
  }
    where
      same : y.pack ≡ x.pack
      same = same_Some y.pack x.pack (sym y.of ∙ x.of)

      middle : y.one ≡ x.other
      middle = same_Some y.one x.other (sym y.first ∙ x.second)

  ahead_decided : (j k : ℕ) (u v : Publication) → publication_at packages p j ≡ Some u → publication_at packages p k ≡ Some v → Decided (IsAhead packages wanted p j k)
  ahead_decided j k u v at_j at_k = elim (cases_Bool (is_preferred_to wanted pack.0.name u v)) [
    | inl t ↦ inl (record { pack = pack.0; one = u; other = v; of = pack.1; first = at_j; second = at_k; preferred = t })
    | inr f ↦ inr (not_preferred packages wanted p j k pack.0 u v pack.1 at_j at_k f)
  ]
    where
      pack : (pack : Package) × (package_at packages p ≡ Some pack) × (slice_get pack.versions j ≡ Some u)
      pack = publication_at-package packages p j u at_j

-- ---- a first among those that serve

-- of numbers below a bound, each of which serves or is out, one serves and those ahead of it are out, or all are out
module _ (Ahead : ℕ → ℕ → Type 0) (Serves Out : ℕ → Type 0) (trans : (i j k : ℕ) → Ahead i j → Ahead j k → Ahead i k) (apart : (k : ℕ) → Ahead k k → ⊥) where
  below : (m : ℕ) (P : ℕ → Type 0) → (P m → Out m) → ((j : ℕ) → j < m → P j → Out j) → (j : ℕ) → j < suc m → P j → Out j
  below m P here before j lt h = elim (cases_eq j m) [
    | inl same ↦ subst Out (sym same) (here (subst P same h))
    | inr other ↦ before j (omega (arith, lt, other)) h
  ]

  abbrev First : ℕ → Type 0
  First n = ((k : ℕ) × Serves k × (k < n) × ((j : ℕ) → j < n → Ahead j k → Out j)) ⊎ ((j : ℕ) → j < n → Out j)

  first : (n : ℕ) → ((j k : ℕ) → j < n → k < n → Decided (Ahead j k)) → ((k : ℕ) → k < n → Serves k ⊎ Out k) → First n
  first zero decided tried = inr (λ j lt. absurd (omega (arith, lt)))
  first (suc m) decided tried = by (tried m (omega arith)) (first m (λ j k a b. decided j k (omega (arith, a)) (omega (arith, b))) (λ k lt. tried k (omega (arith, lt))))
    where
      by : Serves m ⊎ Out m → First m → First (suc m)
      by (inr out) (inr none) = inr (λ j lt. below m (λ j. Unit {0}) (λ u. out) (λ j lt u. none j lt) j lt tt)
      by (inr out) (inl (k, serves, lt, outs)) = inl (k, serves, omega (arith, lt), below m (λ j. Ahead j k) (λ a. out) outs)
      by (inl serves) (inr none) = inl (m, serves, omega arith, below m (λ j. Ahead j m) (λ a. absurd (apart m a)) (λ j lt a. none j lt))
      by (inl serves) (inl (k, old, lt, outs)) = elim (decided m k (omega arith) (omega (arith, lt))) [
        | inl better ↦ inl (m, serves, omega arith, below m (λ j. Ahead j m) (λ a. absurd (apart m a)) (λ j lt a. outs j lt (trans j m k a better)))
        | inr not_better ↦ inl (k, old, omega (arith, lt), below m (λ j. Ahead j k) (λ a. absurd (not_better a)) outs)
      ]

-- ---- the search

module _ (published : PublishedBelow) (numbers : PublishedIsNumbered) (allowed : AllowedIsPublished) (total : PrecedenceIsATotalPreorder) (packages : Packages) (wanted : Wanted) where
  -- in the order of the walk, with versions that are published
  record IsPart (found : List (ℕ × ℕ)) : Type 0 where
    walked : AreWalked packages wanted.needs found
    versions : (p k : ℕ) → choice_of found p ≡ Some k → is_published packages p k ≡ true

  empty : IsPart []
  empty = record { walked = λ i e at. absurd (none-some e at); versions = λ p k e. absurd (none-some k e) }

  push : (found : List (ℕ × ℕ)) (p k : ℕ) → IsPart found → next_package packages wanted.needs found ≡ Some p → is_published packages p k ≡ true → IsPart (found ++ (p, k) ∷ [])
  push found p k part next is = record {
    walked = walked_push packages wanted.needs found p k part.walked next;
    versions = λ q j e. elim (choice-push_cases found p k q j e) [
      | inl before ↦ part.versions q j before
      | inr last ↦ ap (λ q. is_published packages q j) (sym last.0) ∙ ap (is_published packages p) (sym last.1) ∙ is
    ];
  }

  short : (found : List (ℕ × ℕ)) → IsPart found → length found ≤ length packages + 1
  short found part = once_short found (length packages + 1) (walked_once packages wanted.needs found part.walked) (λ p k e. let within = numbers packages p k (part.versions p k e) in omega (arith, within.1))

  -- behind those that were found these come, each at its turn, and all meet the request
  record GoesOn (found more : List (ℕ × ℕ)) : Type 0 where
    turns : (i : ℕ) (e : ℕ × ℕ) → slice_get more i ≡ Some e → IsTurn packages wanted (found ++ take i more) e
    meets : Meets packages wanted (choice_of (found ++ more))

  goes_on : (found more : List (ℕ × ℕ)) (x : ℕ × ℕ) → IsTurn packages wanted found x → GoesOn (found ++ x ∷ []) more → GoesOn found (x ∷ more)
  goes_on found more x turn rest = record {
    turns = turns;
    meets = subst (λ (xs : List (ℕ × ℕ)). Meets packages wanted (choice_of xs)) (append_assoc found (x ∷ []) more) rest.meets;
  }
    where
      turns : (i : ℕ) (e : ℕ × ℕ) → slice_get (x ∷ more) i ≡ Some e → IsTurn packages wanted (found ++ take i (x ∷ more)) e
      turns zero e at = subst (λ xs. IsTurn packages wanted xs e) (sym (append-nil found)) (subst (IsTurn packages wanted found) (same_Some x e at) turn)
      turns (suc i) e at = subst (λ xs. IsTurn packages wanted xs e) (append_assoc found (x ∷ []) (take i more)) (rest.turns i e at)

  -- some go on behind those that were found, or no selection that meets the request has them
  abbrev Searched : List (ℕ × ℕ) → Type 0
  Searched found = ((more : List (ℕ × ℕ)) × GoesOn found more) ⊎ OfEach packages wanted found (λ t. ⊥)

  module _ (found : List (ℕ × ℕ)) (part : IsPart found) where
    chosen : (i : ℕ) (e : ℕ × ℕ) → slice_get found i ≡ Some e → choice_of found e.0 ≡ Some e.1
    chosen = own_choice packages wanted.needs found part.walked

    -- where nothing comes next
    checked : AreAllChecked packages wanted (choice_of found) ⊎ (Meets packages wanted (choice_of found) → ⊥)
    checked = elim (lines_decided packages wanted (choice_of found) wanted.needs) [
      | inl needs ↦ elim (all_decided (λ (e : ℕ × ℕ). IsChecked packages wanted (choice_of found) e.0 e.1) found (checked_decided packages wanted (choice_of found))) [
        | inl all ↦ inl (record { needs = needs; checked = λ p k e. let place = choice-entry found p k e in all place.0 (p, k) place.1 })
        | inr fails ↦ inr (λ m. fails (λ i e at. record { allowed = m.allowed e.0 e.1 (chosen i e at); met = λ name need among. m.closed e.0 e.1 name need (chosen i e at) among }))
      ]
      | inr fails ↦ inr (λ m. fails m.needs)
    ]

    ended : next_package packages wanted.needs found ≡ None → Searched found
    ended none = elim checked [
      | inl all ↦ inl (
        [],
        record {
          turns = λ i e at. absurd (none-some e at);
          meets = subst (λ (xs : List (ℕ × ℕ)). Meets packages wanted (choice_of xs)) (sym (append-nil found)) (checked_meets packages wanted found part.walked allowed all);
        },
      )
      | inr fails ↦ inr (λ t meets has. fails (subst (λ (c : Choices). Meets packages wanted c)
          (λ i p. sym (whole packages wanted t found (record { walked = part.walked; chosen = λ j e at. has e.0 e.1 (chosen j e at) }) none meets p) i) meets))
    ]

    -- a selection that goes on has a version of what comes next
    comes : (p : ℕ) → next_package packages wanted.needs found ≡ Some p → OfEach packages wanted found (λ t. (k : ℕ) × (t p ≡ Some k))
    comes p next t meets has = next_met packages wanted t found p meets (λ i e at. has e.0 e.1 (chosen i e at)) next

    branch : (p : ℕ) → next_package packages wanted.needs found ≡ Some p → ((k : ℕ) → k < length (versions_or_none (package_at packages p)) → Searched (found ++ (p, k) ∷ [])) → Searched found
    branch p next tried = elim (first (IsAhead packages wanted p) (λ k. (more : List (ℕ × ℕ)) × GoesOn (found ++ (p, k) ∷ []) more) (IsOut packages wanted found p) (ahead_trans total packages wanted p) (λ k. not_ahead packages wanted p k total)
        (length (versions_or_none (package_at packages p))) decided served) [
          | inl here ↦ inl ((p, here.0) ∷ here.1.0, goes_on found here.1.0 (p, here.0) (next, λ j a. here.3 j (published_within packages p j (ap is_some a.first)) a) here.1.1)
          | inr none ↦ inr (λ t meets has. let there = comes p next t meets has in none there.0 (published_within packages p there.0 (meets.selection p there.0 there.1)) t meets has there.1)
        ]
      where
        decided : (j k : ℕ) → j < length (versions_or_none (package_at packages p)) → k < length (versions_or_none (package_at packages p)) → Decided (IsAhead packages wanted p j k)
        decided j k a b =
            let u = some_value (publication_at packages p j) (published packages p j a) in
            let v = some_value (publication_at packages p k) (published packages p k b) in
            ahead_decided total packages wanted p j k u.0 v.0 u.1 v.1

        served : (k : ℕ) → k < length (versions_or_none (package_at packages p)) → ((more : List (ℕ × ℕ)) × GoesOn (found ++ (p, k) ∷ []) more) ⊎ IsOut packages wanted found p k
        served k lt = elim (tried k lt) [
          | inl more ↦ inl more
          | inr none ↦ inr (out_tried packages wanted found (found ++ (p, k) ∷ []) p k refl none)
        ]

  search_to : (n : ℕ) (found : List (ℕ × ℕ)) → IsPart found → length found + n ≡ length packages + 2 → Searched found
  search_to zero found part room = absurd (let few = short found part in omega (arith, few, room))
  search_to (suc n) found part room = by (λ next is more. search_to n next is more) (next_package packages wanted.needs found) refl
    where
      by : ((next : List (ℕ × ℕ)) → IsPart next → length next + n ≡ length packages + 2 → Searched next) → (o : Option ℕ) → next_package packages wanted.needs found ≡ o → Searched found
      by from None e = ended found part e
      by from (Some p) e = branch found part p e (λ k lt.
          let l : length (found ++ (p, k) ∷ []) ≡ length found + 1 = length-append found ((p, k) ∷ []) in
          from (found ++ (p, k) ∷ []) (push found p k part e (published packages p k lt)) (omega (arith, room, l)))

  -- there is a newest selection, or none meets the request
  pub newest_or_none : ((t : Choices) × IsNewest packages wanted t) ⊎ ((s : Choices) → Meets packages wanted s → ⊥)
  newest_or_none = elim (search_to (length packages + 2) [] empty (omega arith)) [
    | inl on ↦ inl (choice_of on.0, record { found = on.0; selects = refl; meets = on.1.meets; best = record { turns = on.1.turns } })
    | inr none ↦ inr (λ s meets. none s meets (λ p k e. absurd (none-some k e)))
  ]
