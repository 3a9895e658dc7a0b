-- Choosing the best versions in the order of the walk: what is kept of packages, and what is asked.
use Rattle.std.proofs.Common.{◌≡◌, ◌<◌, ◌≤◌, ◌+◌, ◌∙◌, ◌⊎◌, ℕ, zero, suc, refl, sym, ap, subst, arith, Bool, true, false, true≢false, not, ◌&&◌, ◌||◌, List, [], ◌∷◌, ◌++◌, length, take, drop, map, get_or, inl, inr, nat_eq}
use Rattle.std.specs.Cmp.{IsTotalOrder}
use Rattle.std.proofs.lemmas.Bool.{cases_Bool, eq-eqb, eqb-true, and_from}
use Rattle.std.proofs.Math.Seq.{take-append_seam}
use Rattle.std.proofs.lemmas.Option.{none-some, same_Some, slice_get_within, get_or_from_slice_get}
use Rattle.std.proofs.lemmas.List.{append_assoc, append-nil, take_all, map-append}
use Rattle.std.specs.Prelude.{None, Option, Some, Contains, slice_get}
use Rattle.versions.specs.Words.{Text, precedence}
use Rattle.terms.specs.Sets.{has}
use Rattle.terms.specs.Sets.{has as has_in}
use Rattle.terms.specs.Terms.{true_of}
use Rattle.terms.specs.declared.term.Term.{Term}
use Rattle.terms.specs.declared.term.Term.TheVariants.{In, NotIn}
use Rattle.registry.specs.Dependencies.{IsDependency}
use Rattle.registry.specs.Registry.{Packages, is_published, meets_at, needs_of, number_of, package_at, publication_at, versions_or_none}
use Rattle.registry.specs.Requests.{Wanted}
use Rattle.registry.specs.Selections.{Choices, Meets}
use Rattle.walk.specs.Best.{AreAlike, ArePassed, AreTargets, AskAlike, AsksAt, AsksOf, AsksOne, HasNone, Holds, IsChoosing, IsGrown, IsLeft, IsOf, MeetsOf, NamesAt, Narrows, Pushes}
use Rattle.walk.specs.Choosing.{Follows, choice_of}
use Rattle.walk.specs.Left.{term_of}
use Rattle.walk.specs.Newest.{AreBest, AreWalked, IsAhead, IsBest, IsNewest, IsOut, IsTurn, OfEach, dependencies_of, first_new, in_name_order, next_package}
use Rattle.walk.specs.declared.choosing.Choosing.{Choosing}
use Rattle.walk.specs.declared.choosing.Needed.{Needed}
use Rattle.walk.proofs.Better.{not_ahead}
use Rattle.walk.proofs.Listings.{each_pushed, first_behind, first_here}
use Rattle.walk.proofs.Lists.{choice-left, choice-push_cases, choice-push_here, front-next, get-before, get-contains, get-left, one_more, pushed_at, some_value, take_one}
use Rattle.walk.proofs.NewestLaws.{own_choice}
use Rattle.walk.proofs.OneListing.{list-selects}
use Rattle.walk.proofs.Publications.{listed_at}
use Rattle.walk.proofs.Steps.{met_at}

-- ---- versions that depend alike

-- where each version needs what the one before it does, each needs what the first does
pub all_alike : (packages : Packages) (p : ℕ) → ((k j : ℕ) → j + 1 ≡ k → k < length (versions_or_none (package_at packages p)) → needs_of packages p k ≡ needs_of packages p j)
    → (k : ℕ) → k < length (versions_or_none (package_at packages p)) → needs_of packages p k ≡ needs_of packages p 0
all_alike packages p alike zero lt = refl
all_alike packages p alike (suc j) lt = alike (suc j) j (omega arith) lt ∙ all_alike packages p alike j (omega (arith, lt))

pub published_within : (packages : Packages) (p k : ℕ) → is_published packages p k ≡ true → k < length (versions_or_none (package_at packages p))
published_within packages p k e = let v = some_value (publication_at packages p k) e in slice_get_within (versions_or_none (package_at packages p)) k v.0 (listed_at packages p k v.0 v.1)

-- ---- what holds of selections

pub same_found : (old new : Choosing) → new.found ≡ old.found → new.found.entries ≡ old.found.entries ++ []
same_found old new found = ap (λ m. m.entries) found ∙ sym (append-nil old.found.entries)

module _ (packages : Packages) (wanted : Wanted) where
  -- what is left and needed was so before, or is so of each
  holds_from : (old new : Choosing) (more : List (ℕ × ℕ)) → new.found.entries ≡ old.found.entries ++ more
      → ((i : ℕ) (e : Needed) → slice_get new.needed.items i ≡ Some e → (slice_get old.needed.items i ≡ Some e) ⊎ IsLeft packages wanted old.found.entries e.pkg (term_of e.left))
      → ((i q : ℕ) → slice_get new.fresh.items i ≡ Some q → (slice_get old.fresh.items i ≡ Some q) ⊎ OfEach packages wanted old.found.entries (λ t. (k : ℕ) × (t q ≡ Some k))) → Holds packages wanted old → Holds packages wanted new
  holds_from old new more grown needed fresh h = record {
    left = λ i e at. moved (λ t. true_of (term_of e.left) (t e.pkg) ≡ true) (elim (needed i e at) [
      | inl before ↦ h.left i e before
      | inr here ↦ here
    ]);
    fresh = λ i q at. moved (λ t. (k : ℕ) × (t q ≡ Some k)) (elim (fresh i q at) [
      | inl before ↦ h.fresh i q before
      | inr here ↦ here
    ]);
  }
    where
      moved : (P : Choices → Type 0) → OfEach packages wanted old.found.entries P → OfEach packages wanted new.found.entries P
      moved P each t meets has = each t meets (λ p k e. has p k (ap (λ (xs : List (ℕ × ℕ)). choice_of xs p) grown ∙ choice-left old.found.entries more p k e))

  -- where more is chosen
  pub holds_more : (old new : Choosing) (more : List (ℕ × ℕ)) → new.found.entries ≡ old.found.entries ++ more → new.needed ≡ old.needed → new.fresh ≡ old.fresh → Holds packages wanted old → Holds packages wanted new
  holds_more old new more grown needed fresh =
      holds_from old new more grown (λ i e at. inl (ap (λ v. slice_get v.items i) (sym needed) ∙ at)) (λ i q at. inl (ap (λ v. slice_get v.items i) (sym fresh) ∙ at))

  -- where nothing of it changes
  pub holds_same : (old new : Choosing) → new.found ≡ old.found → new.needed ≡ old.needed → new.fresh ≡ old.fresh → Holds packages wanted old → Holds packages wanted new
  holds_same old new found needed fresh = holds_more old new [] (same_found old new found) needed fresh

  -- a version that a selection has depends on what it has
  depends_on : (t : Choices) (p k index target : ℕ) (ordinals : List ℕ) → Meets packages wanted t → t p ≡ Some k → IsDependency packages p k index target ordinals → IsOf ordinals (t target)
  depends_on t p k index target ordinals meets has d =
      let there = met_at packages t d.name d.need target (meets.closed p k d.name d.need has (get-contains _ index (d.name, d.need) d.at)) d.number in
      (there.0, there.1, d.members there.0 ∙ there.2)

  pub dependency_of : (found : List (ℕ × ℕ)) (p k index target : ℕ) (ordinals : List ℕ) → AskAlike packages wanted found p k → IsDependency packages p k index target ordinals → OfEach packages wanted found (λ t. IsOf ordinals (t target))
  dependency_of found p k index target ordinals asks d t meets has =
      let here = asks t meets has in
      let among : Contains (needs_of packages p here.0) (d.name, d.need) = subst (λ lines. Contains lines (d.name, d.need)) (sym here.2) (get-contains _ index (d.name, d.need) d.at) in
      let there = met_at packages t d.name d.need target (meets.closed p here.0 d.name d.need here.1 among) d.number in
      (there.0, there.1, d.members there.0 ∙ there.2)

  -- and what the request needs
  pub need_of : (found : List (ℕ × ℕ)) (name need : Text) (target : ℕ) (ordinals : List ℕ) → Contains wanted.needs (name, need) → number_of packages name ≡ Some target → ((k : ℕ) → has ordinals k ≡ meets_at packages target k need)
      → OfEach packages wanted found (λ t. IsOf ordinals (t target))
  need_of found name need target ordinals among numbered members t meets has =
      let there = met_at packages t name need target (meets.needs name need among) numbered in
      (there.0, there.1, members there.0 ∙ there.2)

pub is_of-true : (set : List ℕ) (choice : Option ℕ) → IsOf set choice → true_of (In set) choice ≡ true
is_of-true set choice h = ap (λ c. true_of (In set) c) h.1 ∙ h.2

-- ---- what is left of a package

pub narrows_same : (term : Term) (p : ℕ) (c : Choosing) → Narrows term p c c
narrows_same term p c = record { found = refl; asked = refl; needed = ([], sym (append-nil c.needed.items)); holds = λ packages wanted each h. h }

-- where one thing is added, that follows from the term
pub narrows_pushed : (term left : Term) (p : ℕ) (old new : Choosing) → Pushes left p old new
    → ((packages : Packages) (wanted : Wanted) → OfEach packages wanted old.found.entries (λ t. true_of term (t p) ≡ true) → Holds packages wanted old → OfEach packages wanted old.found.entries (λ t. true_of left (t p) ≡ true)) → Narrows term p old new
narrows_pushed term left p old new push gives = record {
  found = push.found;
  asked = ap (λ v. v.items) push.asked;
  needed = (push.entry ∷ [], push.needed);
  holds = λ packages wanted each h. holds_from packages wanted old new [] (same_found old new push.found)
      (λ i e at. elim (pushed_at old.needed.items push.entry i e (ap (λ xs. slice_get xs i) (sym push.needed) ∙ at)) [
        | inl before ↦ inl before
        | inr last ↦ inr (λ t meets has.
            subst (λ (x : Needed). true_of (term_of x.left) (t x.pkg) ≡ true) last.1 (ap (λ l. true_of l (t push.entry.pkg)) push.is ∙ ap (λ q. true_of left (t q)) push.of ∙ gives packages wanted each h t meets has))
      ])
      (λ i q at. inl (ap (λ v. slice_get v.items i) (sym push.fresh) ∙ at)) h;
}

-- where a package is looked at once more
some_true : (set : List ℕ) (choice : Option ℕ) → true_of (In set) choice ≡ true → (k : ℕ) × (choice ≡ Some k)
some_true set None h = absurd (true≢false (sym h))
some_true set (Some k) h = (k, refl)

pub narrows_again : (set : List ℕ) (p : ℕ) (old new : Choosing) → new.found ≡ old.found → new.asked ≡ old.asked → new.needed ≡ old.needed → new.fresh.items ≡ old.fresh.items ++ p ∷ [] → Narrows (In set) p old new
narrows_again set p old new found asked needed fresh = record {
  found = found;
  asked = ap (λ v. v.items) asked;
  needed = ([], ap (λ v. v.items) needed ∙ sym (append-nil old.needed.items));
  holds = λ packages wanted each. holds_from packages wanted old new [] (same_found old new found) (λ i e at. inl (ap (λ v. slice_get v.items i) (sym needed) ∙ at))
      (λ i q at. elim (pushed_at old.fresh.items p i q (ap (λ xs. slice_get xs i) (sym fresh) ∙ at)) [
        | inl before ↦ inl before
        | inr last ↦ inr (λ t meets has. let one = some_true set (t p) (each t meets has) in (one.0, ap t (sym last.1) ∙ one.1))
      ]);
}

-- one after the other
pub narrows_both : (term : Term) (p : ℕ) (old mid new : Choosing) → Narrows term p old mid → Narrows term p mid new → Narrows term p old new
narrows_both term p old mid new one two = record {
  found = two.found ∙ one.found;
  asked = two.asked ∙ one.asked;
  needed = (one.needed.0 ++ two.needed.0, two.needed.1 ∙ ap (λ xs. xs ++ two.needed.0) one.needed.1 ∙ append_assoc old.needed.items one.needed.0 two.needed.0);
  holds = λ packages wanted each h. two.holds packages wanted (subst (λ m. OfEach packages wanted m.entries (λ t. true_of term (t p) ≡ true)) (sym one.found) each) (one.holds packages wanted each h);
}

-- where those of before are left of which the term is true
pub narrows_less : (term both : Term) (p place : ℕ) (e : Needed) (old new : Choosing) → slice_get old.needed.items place ≡ Some e → e.pkg ≡ p → ((c : Option ℕ) → true_of both c ≡ (true_of (term_of e.left) c && true_of term c)) → Pushes both p old new → Narrows term p old new
narrows_less term both p place e old new at own exact push = narrows_pushed term both p old new push (λ packages wanted each h t meets has.
    exact (t p) ∙ and_from (true_of (term_of e.left) (t p)) (true_of term (t p)) (ap (λ q. true_of (term_of e.left) (t q)) (sym own) ∙ h.left place e at t meets has) (each t meets has))

-- the same of what is left as it is read
pub narrows_left : (term both : Term) (p place : ℕ) (e x : Needed) (old new : Choosing) → slice_get old.needed.items place ≡ Some e → e.pkg ≡ p → x ≡ get_or old.needed.items place x
    → ((c : Option ℕ) → true_of both c ≡ (true_of (term_of x.left) c && true_of term c)) → Pushes both p old new → Narrows term p old new
narrows_left term both p place e x old new at own read exact push =
    let same : x ≡ e = read ∙ get_or_from_slice_get old.needed.items place e x at in
    narrows_less term both p place e old new at own (λ c. exact c ∙ ap (λ (y : Needed). true_of (term_of y.left) c && true_of term c) same) push

-- ---- what is added

pub grown_of : (old new : Choosing) → new.asked ≡ old.asked → new.needed ≡ old.needed → IsGrown old new
grown_of old new asked needed = record {
  asked = ([], ap (λ v. v.items) asked ∙ sym (append-nil old.asked.items));
  needed = ([], ap (λ v. v.items) needed ∙ sym (append-nil old.needed.items));
}

pub grown_both : (old mid new : Choosing) → IsGrown old mid → IsGrown mid new → IsGrown old new
grown_both old mid new one two = record {
  asked = (one.asked.0 ++ two.asked.0, two.asked.1 ∙ ap (λ xs. xs ++ two.asked.0) one.asked.1 ∙ append_assoc old.asked.items one.asked.0 two.asked.0);
  needed = (one.needed.0 ++ two.needed.0, two.needed.1 ∙ ap (λ xs. xs ++ two.needed.0) one.needed.1 ∙ append_assoc old.needed.items one.needed.0 two.needed.0);
}

-- something is looked at, and then what is left is added to
pub grown_after : (start old mid new : Choosing) → IsGrown start old → mid.asked ≡ old.asked → mid.needed ≡ old.needed → IsGrown mid new → IsGrown start new
grown_after start old mid new before asked needed grown = grown_both start mid new (grown_both start old mid before (grown_of old mid asked needed)) grown

pub grown_narrows : (term : Term) (p : ℕ) (old new : Choosing) → Narrows term p old new → IsGrown old new
grown_narrows term p old new n = record { asked = ([], n.asked ∙ sym (append-nil old.asked.items)); needed = n.needed }

pub grown_asked : (p : ℕ) (asks : Bool) (old new : Choosing) → AsksOne p asks old.asked.items new.asked.items → new.needed ≡ old.needed → IsGrown old new
grown_asked p true old new asks needed = record { asked = (p ∷ [], asks); needed = ([], ap (λ v. v.items) needed ∙ sym (append-nil old.needed.items)) }
grown_asked p false old new asks needed = record { asked = ([], asks ∙ sym (append-nil old.asked.items)); needed = ([], ap (λ v. v.items) needed ∙ sym (append-nil old.needed.items)) }

-- ---- lines that are met

pub asks_more : (packages : Packages) (lines : List (Text × Text)) (index target : ℕ) (line : Text × Text) (is_chosen : Bool) (old mid new : List ℕ) → slice_get lines index ≡ Some line → number_of packages line.0 ≡ Some target
    → AsksOf packages (take index lines) is_chosen old mid → AsksOne target is_chosen mid new → AsksOf packages (take (index + 1) lines) is_chosen old new
asks_more packages lines index target line false old mid new at numbered before one = one ∙ before
asks_more packages lines index target line true old mid new at numbered before one = (
  before.0 ++ target ∷ [],
  one ∙ ap (λ xs. xs ++ target ∷ []) before.1 ∙ append_assoc old before.0 (target ∷ []),
  ap (map (λ (l : Text × Text). number_of packages l.0)) (take_one lines index line at) ∙ map-append (λ (l : Text × Text). number_of packages l.0) (take index lines) (line ∷ [])
      ∙ ap (λ xs. xs ++ number_of packages line.0 ∷ []) before.2 ∙ ap (λ o. map Some before.0 ++ o ∷ []) numbered ∙ sym (map-append Some before.0 (target ∷ [])),
)

pub asks_none : (packages : Packages) (lines : List (Text × Text)) (is_chosen : Bool) (old : List ℕ) → AsksOf packages (take 0 lines) is_chosen old old
asks_none packages lines true old = ([], sym (append-nil old), refl)
asks_none packages lines false old = refl

pub asks_all : (packages : Packages) (lines : List (Text × Text)) (index : ℕ) (is_chosen : Bool) (old new : List ℕ) → length lines ≤ index → AsksOf packages (take index lines) is_chosen old new → AsksOf packages lines is_chosen old new
asks_all packages lines index is_chosen old new all h = subst (λ (ls : List (Text × Text)). AsksOf packages ls is_chosen old new) (take_all index lines all) h

-- one line of what each selection depends on
pub meets_one : (packages : Packages) (p k index target : ℕ) (ordinals : List ℕ) (old asked new : Choosing) → IsDependency packages p k index target ordinals → asked.found ≡ old.found → asked.needed ≡ old.needed → asked.fresh ≡ old.fresh
    → Narrows (In ordinals) target asked new → MeetsOf packages p k old new
meets_one packages p k index target ordinals old asked new d found needed fresh narrows = record {
  found = narrows.found ∙ found;
  holds = λ wanted asks h.
      narrows.holds packages wanted
      (subst (λ m. OfEach packages wanted m.entries (λ t. true_of (In ordinals) (t target) ≡ true)) (sym found)
      (λ t meets has. is_of-true ordinals (t target) (dependency_of packages wanted old.found.entries p k index target ordinals asks d t meets has)))
      (holds_same packages wanted old asked found needed fresh h);
}

-- where a package is asked for, and nothing else
pub meets_asked : (packages : Packages) (p k : ℕ) (old new : Choosing) → new.found ≡ old.found → new.needed ≡ old.needed → new.fresh ≡ old.fresh → MeetsOf packages p k old new
meets_asked packages p k old new found needed fresh = record {
  found = found;
  holds = λ wanted asks h. holds_same packages wanted old new found needed fresh h;
}

-- one after the other
pub meets_both : (packages : Packages) (p k : ℕ) (old mid new : Choosing) → MeetsOf packages p k old mid → MeetsOf packages p k mid new → MeetsOf packages p k old new
meets_both packages p k old mid new one two = record {
  found = two.found ∙ one.found;
  holds = λ wanted asks h. two.holds wanted (subst (λ m. AskAlike packages wanted m.entries p k) (sym one.found) asks) (one.holds wanted asks h);
}

-- the package of one more line is asked for
pub asks_line : (packages : Packages) (p k index : ℕ) (is_chosen : Bool) (old mid new : List ℕ) → AsksOf packages (take index (needs_of packages p k)) is_chosen old mid → AsksAt packages p k index is_chosen mid new → AsksOf packages (take (index + 1) (needs_of packages p k)) is_chosen old new
asks_line packages p k index is_chosen old mid new before one = asks_more packages (needs_of packages p k) index one.0 one.1.0 is_chosen old mid new one.1.1 one.1.2 before one.2

pub names_dependency : (packages : Packages) (p k index target : ℕ) (ordinals : List ℕ) → IsDependency packages p k index target ordinals → NamesAt packages p k index target
names_dependency packages p k index target ordinals d = ((d.name, d.need), d.at, d.number)

pub meets_none : (packages : Packages) (p k : ℕ) (c : Choosing) → MeetsOf packages p k c c
meets_none packages p k c = record { found = refl; holds = λ wanted asks h. h }

-- ---- versions that are not to be had

module _ (packages : Packages) (wanted : Wanted) (found : List (ℕ × ℕ)) where
  -- where no selection has a version that the dependency may have
  pub odds_none : (p k index target : ℕ) (ordinals : List ℕ) → IsDependency packages p k index target ordinals → HasNone packages wanted found target ordinals → IsOut packages wanted found p k
  odds_none p k index target ordinals d none t meets has is = let there = depends_on packages wanted t p k index target ordinals meets is d in none there.0 there.2 t meets has there.1

  pub odds_left : (p k index target : ℕ) (ordinals : List ℕ) (left : Term) → IsDependency packages p k index target ordinals → OfEach packages wanted found (λ t. true_of left (t target) ≡ true)
      → ((j : ℕ) → is_published packages target j ≡ true → true_of left (Some j) ≡ true → true_of (In ordinals) (Some j) ≡ true → ⊥) → IsOut packages wanted found p k
  odds_left p k index target ordinals left d each apart = odds_none p k index target ordinals d (λ j member t meets has is.
      apart j (meets.selection target j is) (ap (true_of left) (sym is) ∙ each t meets has) member)

  -- where the version that is chosen is another
  pub none_chosen : (p chosen : ℕ) (set : List ℕ) → choice_of found p ≡ Some chosen → has_in set chosen ≡ false → HasNone packages wanted found p set
  none_chosen p chosen set there out j member t meets has is =
      let same : j ≡ chosen = same_Some j chosen (sym is ∙ has p chosen there) in
      true≢false (sym member ∙ ap (λ n. has_in set n) same ∙ out)

  pub odds_chosen : (p k index target chosen : ℕ) (ordinals : List ℕ) → IsDependency packages p k index target ordinals → choice_of found target ≡ Some chosen → has_in ordinals chosen ≡ false → IsOut packages wanted found p k
  odds_chosen p k index target chosen ordinals d there out = odds_none p k index target ordinals d (none_chosen target chosen ordinals there out)

  -- where none of those that are left is in the set
  pub none_both : (p : ℕ) (left : Term) (set : List ℕ) → OfEach packages wanted found (λ t. true_of left (t p) ≡ true) → ((j : ℕ) → true_of left (Some j) ≡ true → has_in set j ≡ true → ⊥) → HasNone packages wanted found p set
  none_both p left set each apart j member t meets has is = apart j (ap (true_of left) (sym is) ∙ each t meets has) member

-- ---- packages that are newly needed

pub holds_popped : (packages : Packages) (wanted : Wanted) (old new : Choosing) (rest : List ℕ) → new.found ≡ old.found → new.needed ≡ old.needed → old.fresh.items ≡ new.fresh.items ++ rest → Holds packages wanted old → Holds packages wanted new
holds_popped packages wanted old new rest found needed fresh =
    holds_from packages wanted old new [] (same_found old new found) (λ i e at. inl (ap (λ v. slice_get v.items i) (sym needed) ∙ at)) (λ i q at. inl (ap (λ xs. slice_get xs i) fresh ∙ get-left new.fresh.items rest i q at))

-- the one that is taken out is needed
pub popped_needed : (packages : Packages) (wanted : Wanted) (old : Choosing) (rest : List ℕ) (p : ℕ) → old.fresh.items ≡ rest ++ p ∷ [] → Holds packages wanted old → OfEach packages wanted old.found.entries (λ t. (k : ℕ) × (t p ≡ Some k))
popped_needed packages wanted old rest p fresh h = h.fresh (length rest) p (front-next old.fresh.items rest [] p fresh)

-- each selection that has a package depends on what all its versions do
pub ask_alike : (packages : Packages) (wanted : Wanted) (found : List (ℕ × ℕ)) (p : ℕ) → AreAlike packages p → OfEach packages wanted found (λ t. (k : ℕ) × (t p ≡ Some k)) → AskAlike packages wanted found p 0
ask_alike packages wanted found p alike each t meets has = let here = each t meets has in (here.0, here.1, alike here.0 (meets.selection p here.0 here.1))

-- ---- targets

pub targets_more : (packages : Packages) (lines : List (Text × Text)) (index target : ℕ) (line : Text × Text) (old new : List ℕ) → slice_get lines index ≡ Some line → number_of packages line.0 ≡ Some target → AreTargets packages (take index lines) old
    → new ≡ old ++ target ∷ [] → AreTargets packages (take (index + 1) lines) new
targets_more packages lines index target line old new at numbered before one =
    ap (map (λ (l : Text × Text). number_of packages l.0)) (take_one lines index line at) ∙ map-append (λ (l : Text × Text). number_of packages l.0) (take index lines) (line ∷ [])
    ∙ ap (λ xs. xs ++ number_of packages line.0 ∷ []) before ∙ ap (λ o. map Some old ++ o ∷ []) numbered ∙ sym (map-append Some old (target ∷ [])) ∙ ap (map Some) (sym one)

pub targets_both : (packages : Packages) (xs ys : List (Text × Text)) (old more new : List ℕ) → AreTargets packages xs old → AreTargets packages ys more → new ≡ old ++ more → AreTargets packages (xs ++ ys) new
targets_both packages xs ys old more new one two is =
    map-append (λ (l : Text × Text). number_of packages l.0) xs ys ∙ ap (λ l. l ++ map (λ (l : Text × Text). number_of packages l.0) ys) one ∙ ap (λ l. map Some old ++ l) two ∙ sym (map-append Some old more) ∙ ap (map Some) (sym is)

pub dependencies_more : (packages : Packages) (found : List (ℕ × ℕ)) (p k : ℕ) → dependencies_of packages (found ++ (p, k) ∷ []) ≡ dependencies_of packages found ++ needs_of packages p k
dependencies_more packages [] p k = append-nil (needs_of packages p k)
dependencies_more packages (e ∷ found) p k = ap (λ l. needs_of packages e.0 e.1 ++ l) (dependencies_more packages found p k) ∙ sym (append_assoc (needs_of packages e.0 e.1) (dependencies_of packages found) (needs_of packages p k))

-- the first target that was not found comes next
pub first_target : (packages : Packages) (found : List (ℕ × ℕ)) (lines : List (Text × Text)) (asked : List ℕ) (at p : ℕ) → AreTargets packages lines asked → slice_get asked at ≡ Some p
    → ((j q : ℕ) → j < at → slice_get asked j ≡ Some q → (k : ℕ) × (choice_of found q ≡ Some k)) → choice_of found p ≡ None → first_new packages found lines ≡ Some p
first_target packages found lines [] at p targets here passed none = absurd (none-some p here)
first_target packages found [] (q ∷ asked) at p targets here passed none = absurd (zero_suc (ap length targets))
  where
    zero_suc : 0 ≡ suc (length (map (λ (n : ℕ). Some n) asked)) → ⊥
    zero_suc e = omega (arith, e)
first_target packages found (line ∷ lines) (q ∷ asked) zero p targets here passed none =
    first_here packages found line lines p (same_Some (number_of packages line.0) (Some q) (ap (λ xs. slice_get xs 0) targets) ∙ here) none
first_target packages found (line ∷ lines) (q ∷ asked) (suc at) p targets here passed none =
    first_behind packages found line lines (λ r numbered.
    let same : q ≡ r = same_Some q r (sym (same_Some (number_of packages line.0) (Some q) (ap (λ xs. slice_get xs 0) targets)) ∙ numbered) in
    let was = passed 0 q (omega arith) refl in
    (was.0, ap (choice_of found) (sym same) ∙ was.1))
    ∙ first_target packages found lines asked at p (ap (drop 1) targets) here (λ j r lt. passed (suc j) r (omega (arith, lt))) none

-- ---- the best version

-- the only version that is left
only_true : (k : ℕ) (choice : Option ℕ) → true_of (In (k ∷ [])) choice ≡ true → choice ≡ Some k
only_true k None h = absurd (true≢false (sym h))
only_true k (Some j) h = elim (cases_Bool (nat_eq k j)) [
  | inl same ↦ ap Some (sym (eqb-true k j same))
  | inr apart ↦ absurd (true≢false (sym h ∙ ap (λ (b : Bool). b || false) apart))
]

-- the only version that is left is the best: no version is ahead of itself, and the others are out
pub best_only : (packages : Packages) (wanted : Wanted) (found : List (ℕ × ℕ)) (p k : ℕ) → IsTotalOrder precedence → OfEach packages wanted found (λ t. true_of (In (k ∷ [])) (t p) ≡ true) → IsBest packages wanted found p k
best_only packages wanted found p k ordered left j a t meets has chosen =
    let same : k ≡ j = same_Some k j (sym (only_true k (t p) (left t meets has)) ∙ chosen) in
    not_ahead packages wanted p k ordered (subst (λ i. IsAhead packages wanted p i k) (sym same) a)

-- ---- one more that is chosen

pub best_none : (packages : Packages) (wanted : Wanted) (found : List (ℕ × ℕ)) → found ≡ [] → AreBest packages wanted found
best_none packages wanted found empty = record {
  turns = λ i e at. absurd (none-some e (sym (ap (λ (xs : List (ℕ × ℕ)). slice_get xs i) empty) ∙ at));
}

pub best_push : (packages : Packages) (wanted : Wanted) (found : List (ℕ × ℕ)) (p k : ℕ) → AreBest packages wanted found → next_package packages wanted.needs found ≡ Some p → IsBest packages wanted found p k → AreBest packages wanted (found ++ (p, k) ∷ [])
best_push packages wanted found p k h next best = record { turns = each_pushed (IsTurn packages wanted) found (p, k) h.turns (next, best) }

-- the best ones stand in the order of the walk
pub best_walked : (packages : Packages) (wanted : Wanted) (found : List (ℕ × ℕ)) → AreBest packages wanted found → AreWalked packages wanted.needs found
best_walked packages wanted found h i e at = (h.turns i e at).0

-- ---- the selection

-- a list in the order of the walk, each the best, selects the newest selection, if a selection that meets the request follows it
pub best_newest : (packages : Packages) (wanted : Wanted) (found : List (ℕ × ℕ)) (s : Choices) → AreBest packages wanted found → Follows (choice_of found) s → Meets packages wanted s → IsNewest packages wanted s
best_newest packages wanted found s h follows meets =
    let order = best_walked packages wanted found h in
    record {
      found = found;
      selects = λ i p. list-selects packages wanted (choice_of found) s found (record { walked = order; chosen = own_choice packages wanted.needs found order }) (λ p k from e. e) follows meets p i;
      meets = meets;
      best = h;
    }

-- what is left of a package, as it is read
pub left_read : (packages : Packages) (wanted : Wanted) (c : Choosing) (place p : ℕ) (e x : Needed) → Holds packages wanted c → slice_get c.needed.items place ≡ Some e → e.pkg ≡ p → x ≡ get_or c.needed.items place x
    → OfEach packages wanted c.found.entries (λ t. true_of (term_of x.left) (t p) ≡ true)
left_read packages wanted c place p e x h at own read t meets has =
    let same : e ≡ x = sym (get_or_from_slice_get c.needed.items place e x at) ∙ sym read in
    subst (λ (y : Needed). true_of (term_of y.left) (t p) ≡ true) same (ap (λ q. true_of (term_of e.left) (t q)) (sym own) ∙ h.left place e at t meets has)

-- each selection has the only version that is left of a package
pub only_left : (packages : Packages) (wanted : Wanted) (c : Choosing) (place p k : ℕ) (e x : Needed) → Holds packages wanted c → slice_get c.needed.items place ≡ Some e → e.pkg ≡ p → x ≡ get_or c.needed.items place x → term_of x.left ≡ In (k ∷ [])
    → OfEach packages wanted c.found.entries (λ t. t p ≡ Some k)
only_left packages wanted c place p k e x h at own read only t meets has =
    only_true k (t p) (subst (λ (l : Term). true_of l (t p) ≡ true) only (left_read packages wanted c place p e x h at own read t meets has))

-- and depends on what that does
pub ask_only : (packages : Packages) (wanted : Wanted) (found : List (ℕ × ℕ)) (p k : ℕ) → OfEach packages wanted found (λ t. t p ≡ Some k) → AskAlike packages wanted found p k
ask_only packages wanted found p k each t meets has = (k, each t meets has, refl)

-- ---- a choice

-- a version that was chosen
pub chosen_choosing : (packages : Packages) (wanted : Wanted) (old new : Choosing) (p k : ℕ) → IsChoosing packages wanted old → next_package packages wanted.needs old.found.entries ≡ Some p → IsBest packages wanted old.found.entries p k
    → new.found.entries ≡ old.found.entries ++ (p, k) ∷ [] → AsksOf packages (needs_of packages p k) true old.asked.items new.asked.items → Holds packages wanted new → IsChoosing packages wanted new
chosen_choosing packages wanted old new p k h next best found asks holds = record {
  best = subst (λ (xs : List (ℕ × ℕ)). AreBest packages wanted xs) (sym found) (best_push packages wanted old.found.entries p k h.best next best);
  targets =
      let lines : in_name_order wanted.needs ++ dependencies_of packages new.found.entries ≡ (in_name_order wanted.needs ++ dependencies_of packages old.found.entries) ++ needs_of packages p k =
      ap (λ (xs : List (ℕ × ℕ)). in_name_order wanted.needs ++ dependencies_of packages xs) found ∙ ap (λ l. in_name_order wanted.needs ++ l) (dependencies_more packages old.found.entries p k)
      ∙ sym (append_assoc (in_name_order wanted.needs) (dependencies_of packages old.found.entries) (needs_of packages p k)) in
      subst (λ (ls : List (Text × Text)). AreTargets packages ls new.asked.items) (sym lines)
      (targets_both packages (in_name_order wanted.needs ++ dependencies_of packages old.found.entries) (needs_of packages p k) old.asked.items asks.0 new.asked.items h.targets asks.2 asks.1);
  holds = holds;
}

-- what holds once a version is chosen, is the only one of its package, and what it depends on is met
pub chosen_holds : (packages : Packages) (wanted : Wanted) (old mid kept met : Choosing) (p k : ℕ) → choice_of old.found.entries p ≡ None → mid.found.entries ≡ old.found.entries ++ (p, k) ∷ [] → mid.needed ≡ old.needed → mid.fresh ≡ old.fresh
    → Narrows (In (k ∷ [])) p mid kept → MeetsOf packages p k kept met → Holds packages wanted old → Holds packages wanted met
chosen_holds packages wanted old mid kept met p k none found needed fresh keeps meets h =
    let own : OfEach packages wanted mid.found.entries (λ t. t p ≡ Some k) =
    subst (λ (xs : List (ℕ × ℕ)). OfEach packages wanted xs (λ t. t p ≡ Some k)) (sym found) (λ t meeting has. has p k (choice-push_here old.found.entries p k none)) in
    let here = keeps.holds packages wanted (λ t meeting has. ap (true_of (In (k ∷ []))) (own t meeting has) ∙ ap (λ (b : Bool). b || false) (eq-eqb k k refl)) (holds_more packages wanted old mid ((p, k) ∷ []) found needed fresh h) in
    meets.holds wanted (ask_only packages wanted kept.found.entries p k (subst (λ m. OfEach packages wanted m.entries (λ t. t p ≡ Some k)) (sym keeps.found) own)) here

pub asks_between : (packages : Packages) (lines : List (Text × Text)) (old mid met new : List ℕ) → AsksOf packages lines true mid met → mid ≡ old → new ≡ met → AsksOf packages lines true old new
asks_between packages lines old mid met new asks first last = (asks.0, last ∙ asks.1 ∙ ap (λ xs. xs ++ asks.0) first, asks.2)

-- ---- what is taken back

pub taken_same : {A : Type 0} (xs more ys : List A) (n : ℕ) → ys ≡ xs ++ more → n ≡ length xs → take n ys ≡ xs
taken_same xs more ys n is count = ap (λ m. take m ys) count ∙ ap (take (length xs)) is ∙ take-append_seam xs more

pub holds_taken : (packages : Packages) (wanted : Wanted) (old new : Choosing) → new.found.entries ≡ old.found.entries → new.needed.items ≡ old.needed.items → new.fresh.items ≡ [] → Holds packages wanted old → Holds packages wanted new
holds_taken packages wanted old new found needed fresh =
    holds_from packages wanted old new [] (found ∙ sym (append-nil old.found.entries)) (λ i e at. inl (ap (λ xs. slice_get xs i) (sym needed) ∙ at)) (λ i q at. absurd (none-some q (sym (ap (λ (xs : List ℕ). slice_get xs i) fresh) ∙ at)))

-- a package of which nothing is left
pub none_left : (packages : Packages) (wanted : Wanted) (c : Choosing) (at : ℕ) (e : Needed) → slice_get c.needed.items at ≡ Some e → ((choice : Option ℕ) → true_of (term_of e.left) choice ≡ true → ⊥) → Holds packages wanted c → OfEach packages wanted c.found.entries (λ t. ⊥)
none_left packages wanted c at e here none h t meets has = none (t e.pkg) (h.left at e here t meets has)

-- where no selection has a version beside those before, it is out
pub out_tried : (packages : Packages) (wanted : Wanted) (found tried : List (ℕ × ℕ)) (p k : ℕ) → tried ≡ found ++ (p, k) ∷ [] → OfEach packages wanted tried (λ t. ⊥) → IsOut packages wanted found p k
out_tried packages wanted found tried p k is none t meets has there = none t meets (λ q j e. elim (choice-push_cases found p k q j (ap (λ (xs : List (ℕ × ℕ)). choice_of xs q) (sym is) ∙ e)) [
  | inl before ↦ has q j before
  | inr last ↦ ap t (sym last.0) ∙ there ∙ ap Some last.1
])

-- of what is not this version it is true that it is another
pub other_true : (k : ℕ) (choice : Option ℕ) → (choice ≡ Some k → ⊥) → true_of (NotIn (k ∷ [])) choice ≡ true
other_true k None out = refl
other_true k (Some j) out = elim (cases_Bool (nat_eq k j)) [
  | inl same ↦ absurd (out (ap Some (sym (eqb-true k j same))))
  | inr apart ↦ ap (λ (b : Bool). not (b || false)) apart
]

pub choosing_same : (packages : Packages) (wanted : Wanted) (old new : Choosing) → new.found.entries ≡ old.found.entries → new.asked.items ≡ old.asked.items → IsChoosing packages wanted old → Holds packages wanted new → IsChoosing packages wanted new
choosing_same packages wanted old new found asked h holds = record {
  best = subst (λ (xs : List (ℕ × ℕ)). AreBest packages wanted xs) (sym found) h.best;
  targets =
      subst (λ (xs : List (ℕ × ℕ)). AreTargets packages (in_name_order wanted.needs ++ dependencies_of packages xs) new.asked.items) (sym found)
      (subst (λ (ys : List ℕ). AreTargets packages (in_name_order wanted.needs ++ dependencies_of packages old.found.entries) ys) (sym asked) h.targets);
  holds = holds;
}

pub choosing_first : (packages : Packages) (wanted : Wanted) (start met new : Choosing) → start.found.entries ≡ [] → met.found ≡ start.found → new.found ≡ met.found → AreTargets packages (in_name_order wanted.needs) met.asked.items → new.asked.items ≡ met.asked.items
    → Holds packages wanted new → IsChoosing packages wanted new
choosing_first packages wanted start met new empty one two targets asked holds =
    let none : new.found.entries ≡ [] = ap (λ m. m.entries) (two ∙ one) ∙ empty in
    let lines : in_name_order wanted.needs ++ dependencies_of packages new.found.entries ≡ in_name_order wanted.needs =
    ap (λ (xs : List (ℕ × ℕ)). in_name_order wanted.needs ++ dependencies_of packages xs) none ∙ append-nil (in_name_order wanted.needs) in
    record {
      best = best_none packages wanted new.found.entries none;
      targets = subst (λ (ls : List (Text × Text)). AreTargets packages ls new.asked.items) (sym lines) (subst (λ xs. AreTargets packages (in_name_order wanted.needs) xs) (sym asked) targets);
      holds = holds;
    }

-- ---- what was passed

pub passed_here : (c : Choosing) (at p k : ℕ) → ArePassed c at → slice_get c.asked.items at ≡ Some p → choice_of c.found.entries p ≡ Some k → ArePassed c (at + 1)
passed_here c at p k before here chosen = one_more (λ q. (j : ℕ) × (choice_of c.found.entries q ≡ Some j)) c.asked.items at p before here (k, chosen)

pub passed_more : (old new : Choosing) (at p k : ℕ) (more : List ℕ) → ArePassed old at → slice_get old.asked.items at ≡ Some p → choice_of old.found.entries p ≡ None → new.found.entries ≡ old.found.entries ++ (p, k) ∷ []
    → new.asked.items ≡ old.asked.items ++ more → ArePassed new (at + 1)
passed_more old new at p k more before here none found asked = one_more (λ q. (j : ℕ) × (choice_of new.found.entries q ≡ Some j)) new.asked.items at p
    (λ j q lt at_j.
    let passed = before j q lt (get-before old.asked.items more at j q p here lt (ap (λ xs. slice_get xs j) (sym asked) ∙ at_j)) in
    (passed.0, ap (λ (xs : List (ℕ × ℕ)). choice_of xs q) found ∙ choice-left old.found.entries ((p, k) ∷ []) q passed.0 passed.1))
    (ap (λ xs. slice_get xs at) asked ∙ get-left old.asked.items more at p here)
    (k, ap (λ (xs : List (ℕ × ℕ)). choice_of xs p) found ∙ choice-push_here old.found.entries p k none)
