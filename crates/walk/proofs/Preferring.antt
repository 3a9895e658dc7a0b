-- The preferred version, as it is found; and that there is one preferred selection, which is what follows the preferred versions and meets the request.
use Rattle.std.proofs.Common.{Bor, ◌≡◌, ◌<◌, ◌+◌, ◌∙◌, ℕ, zero, suc, refl, sym, ap, subst, arith, Bool, true, false, true≢false, not, ◌&&◌, ◌||◌, cond, List, [], ◌∷◌, length, filter, inl, inr}
use Rattle.std.proofs.lemmas.Bool.{cases_Bool, and_parts, false_from_ne_true, or_parts}
use Rattle.std.proofs.lemmas.Option.{none-some, same_Some, slice_get_within}
use Rattle.std.specs.Prelude.{Option, IfNone, IfSome, None, Some, find, slice_get}
use Rattle.std.specs.List.{enumerate_from, list_all}
use Rattle.std.specs.Option.{is_some, option_and_then, option_copied, option_map, option_or}
use Rattle.std.specs.Ordering.{is_lt}
use Rattle.std.specs.declared.cmp.Ordering.{Ordering}
use Rattle.std.specs.declared.cmp.Ordering.TheVariants.{Less, Equal, Greater}
use Rattle.versions.specs.Words.{Text, precedence, same_precedence}
use Rattle.registry.specs.Laws.{HighestIsOne, OnePreferredSelection}
use Rattle.registry.specs.Lawful.{IsRegistry}
use Rattle.registry.specs.Preference.{IsPreferredSelection, admits, candidates, highest_candidate, is_candidate, locked_candidate, meets_needs, preferred, preferred_in}
use Rattle.registry.specs.Registry.{Package, Packages, Publication, equals_at, has_yank, package_at, publication_at, publication_equals, versions_or_none}
use Rattle.registry.specs.Requests.{Wanted, is_locked, locks}
use Rattle.registry.specs.Selections.{Choices, Meets}
use Rattle.walk.specs.Choosing.{Follows}
use Rattle.walk.specs.Preferring.{Fails, Highest, is_kept, is_kept_at, is_open, is_open_at}
use Rattle.walk.proofs.Lists.{get-some}
use Rattle.walk.proofs.Steps.{reached_by_both, selected}

-- ---- tests of elements that are counted

pub find-filter : {A : Type 0} (t q : A → Bool) (xs : List A) → find q (filter t xs) ≡ find (λ x. t x && q x) xs
find-filter t q [] = refl
find-filter t q (x ∷ xs) = elim (cases_Bool (t x)) [
  | inl e ↦ rw e (ap (λ o. cond (q x) (Some x) o) (find-filter t q xs))
  | inr e ↦ rw e (find-filter t q xs)
]

module _ {A : Type 0} where
  -- the only one that passes is found
  find-only : (f : A → Bool) (n : ℕ) (xs : List A) (i : ℕ) (x : A) → slice_get xs i ≡ Some x → f x ≡ true
      → ((j : ℕ) (y : A) → slice_get xs j ≡ Some y → f y ≡ true → j ≡ i) → find (λ (c : ℕ × A). f c.1) (enumerate_from n xs) ≡ Some (n + i, x)
  find-only f n [] i x at t only = absurd (none-some x at)
  find-only f n (y ∷ xs) zero x at t only =
      let same : y ≡ x = same_Some y x at in
      let here : f y ≡ true = ap f same ∙ t in
      let place : n ≡ n + 0 = omega arith in
      rw here (ap (λ z. Some (n, z)) same ∙ ap (λ k. Some (k, x)) place)
  find-only f n (y ∷ xs) (suc i) x at t only = elim (cases_Bool (f y)) [
    | inl e ↦ absurd (let wrong : 0 ≡ suc i = only 0 y refl e in omega (arith, wrong))
    | inr e ↦
        let rest = find-only f (n + 1) xs i x at t (λ j z here passes. let next : suc j ≡ suc i = only (suc j) z here passes in omega (arith, next)) in
        let place : n + 1 + i ≡ n + suc i = omega arith in
        rw e (rest ∙ ap (λ k. Some (k, x)) place)
  ]

  find-none : (f : A → Bool) (n : ℕ) (xs : List A) → ((j : ℕ) (y : A) → slice_get xs j ≡ Some y → f y ≡ false) → find (λ (c : ℕ × A). f c.1) (enumerate_from n xs) ≡ None
  find-none f n [] fails = refl
  find-none f n (y ∷ xs) fails = rw (fails 0 y refl) (find-none f (n + 1) xs (λ j z here. fails (suc j) z here))

  -- each that passes f passes g
  all-passing : (f g : A → Bool) (n : ℕ) (xs : List A) → ((j : ℕ) (y : A) → slice_get xs j ≡ Some y → f y ≡ true → g y ≡ true)
      → list_all (λ (c : ℕ × A). g c.1) (filter (λ (c : ℕ × A). f c.1) (enumerate_from n xs)) ≡ true
  all-passing f g n [] h = refl
  all-passing f g n (y ∷ xs) h =
      let rest = all-passing f g (n + 1) xs (λ j z here passes. h (suc j) z here passes) in
      elim (cases_Bool (f y)) [
        | inl e ↦ rw e (rw (h 0 y refl e) rest)
        | inr e ↦ rw e rest
      ]

  pub passing-all : (f g : A → Bool) (n : ℕ) (xs : List A) (j : ℕ) (y : A) → list_all (λ (c : ℕ × A). g c.1) (filter (λ (c : ℕ × A). f c.1) (enumerate_from n xs)) ≡ true
      → slice_get xs j ≡ Some y → f y ≡ true → g y ≡ true
  passing-all f g n [] j y all at t = absurd (none-some y at)
  passing-all f g n (x ∷ xs) zero y all at t =
      let same : x ≡ y = same_Some x y at in
      let here : f x ≡ true = ap f same ∙ t in
      let parts = and_parts (g x) (list_all (λ (c : ℕ × A). g c.1) (filter (λ (c : ℕ × A). f c.1) (enumerate_from (n + 1) xs))) (rw here at all) in
      ap g (sym same) ∙ parts.0
  passing-all f g n (x ∷ xs) (suc j) y all at t = elim (cases_Bool (f x)) [
    | inl e ↦
        let parts = and_parts (g x) (list_all (λ (c : ℕ × A). g c.1) (filter (λ (c : ℕ × A). f c.1) (enumerate_from (n + 1) xs))) (rw e at all) in
        passing-all f g (n + 1) xs j y parts.1 at t
    | inr e ↦ passing-all f g (n + 1) xs j y (rw e at all) at t
  ]

-- what follows where there is no value
pub IfNone_then : {X P Q : Type 0} (o : Option X) → IfNone o P → (P → Q) → IfNone o Q
IfNone_then None h f = f h
IfNone_then (Some x) h f = tt

-- where nothing is asked of a package of which nothing is yanked, each of its versions is open
open_in : (versions : List Publication) (k : ℕ) → has_yank versions ≡ false → k < length versions → is_open_at None None (slice_get versions k) ≡ true
open_in [] k none lt = absurd (omega (arith, lt))
open_in (v ∷ versions) zero none lt = ap (λ b. (not b || false) && true) (or_parts v.yanked (has_yank versions) none).0
open_in (v ∷ versions) (suc k) none lt = open_in versions k (or_parts v.yanked (has_yank versions) none).1 (omega (arith, lt))

pub all_open : (packages : Packages) (p k : ℕ) → has_yank (versions_or_none (package_at packages p)) ≡ false → k < length (versions_or_none (package_at packages p))
    → is_open_at None None (publication_at packages p k) ≡ true
unfolding publication_at
all_open packages p k none lt = by (package_at packages p) none lt
  where
    by : (o : Option Package) → has_yank (versions_or_none o) ≡ false → k < length (versions_or_none o)
        → is_open_at None None (option_and_then (λ (pack : Package). slice_get pack.versions k) o) ≡ true
    by None none lt = absurd (omega (arith, lt))
    by (Some pack) none lt = open_in pack.versions k none lt

pub copied_none : {T : Type 0} (o : Option (Bor T)) → is_some o ≡ false → option_copied o ≡ None
copied_none None none = refl
copied_none (Some x) none = absurd (true≢false none)

pub none_left : {X P : Type 0} (o : Option X) → P → IfNone o P
none_left None p = p
none_left (Some x) p = tt

-- ---- the version that the lock names

-- without a line of the lock none is kept
pub kept-unlocked : (packages : Packages) (p : ℕ) (need : Option Text) → Fails packages p (is_kept_at need None)
kept-unlocked packages p need k lt = by (publication_at packages p k)
  where
    by : (o : Option Publication) → is_kept_at need None o ≡ false
    by None = refl
    by (Some v) = refl

-- what the lock names is a version of equal precedence
kept_equals : (need : Option Text) (locked : Text) (o : Option Publication) → is_kept_at need (Some locked) o ≡ true → publication_equals o locked ≡ true
kept_equals need locked None e = absurd (true≢false (sym e))
kept_equals need locked (Some v) e = (and_parts (same_precedence locked v.version) (admits need v.version) e).0

-- nor where no version has the precedence of the one that is named
pub kept-absent : (packages : Packages) (p : ℕ) (need : Option Text) (locked : Text) → ((k : ℕ) → equals_at packages p k locked ≡ false) → Fails packages p (is_kept_at need (Some locked))
kept-absent packages p need locked none k lt =
    false_from_ne_true (is_kept_at need (Some locked) (publication_at packages p k)) (λ e. true≢false (sym (kept_equals need locked (publication_at packages p k) e) ∙ none k))

-- the one that has it is the only one that can be kept
pub kept-once : (packages : Packages) (p : ℕ) (need : Option Text) (locked : Text) (k : ℕ) → ((j : ℕ) → equals_at packages p j locked ≡ true → j ≡ k)
    → (j : ℕ) → is_kept_at need (Some locked) (publication_at packages p j) ≡ true → j ≡ k
kept-once packages p need locked k only j e = only j (kept_equals need locked (publication_at packages p j) e)

-- nor where the one that is named is not
pub kept-only : (packages : Packages) (p : ℕ) (need : Option Text) (locked : Text) (k : ℕ) → ((j : ℕ) → equals_at packages p j locked ≡ true → j ≡ k)
    → is_kept_at need (Some locked) (publication_at packages p k) ≡ false → Fails packages p (is_kept_at need (Some locked))
kept-only packages p need locked k only fails j lt = false_from_ne_true (is_kept_at need (Some locked) (publication_at packages p j)) (λ e.
    let place : j ≡ k = kept-once packages p need locked k only j e in
    true≢false (sym e ∙ ap (λ i. is_kept_at need (Some locked) (publication_at packages p i)) place ∙ fails))

-- ---- the preferred version of a package

module _ (packages : Packages) (wanted : Wanted) (p : ℕ) (pack : Package) (at : package_at packages p ≡ Some pack) (need locked : Option Text)
    (met : (version : Text) → meets_needs wanted.needs pack.name version ≡ admits need version) (named : (version : Text) → is_locked wanted.lock pack.name version ≡ locks locked version) where
  seen : (j : ℕ) → publication_at packages p j ≡ slice_get pack.versions j
  unfolding publication_at
  seen j = ap (λ (o : Option Package). option_and_then (λ (q : Package). slice_get q.versions j) o) at

  published : (j : ℕ) (v : Publication) → slice_get pack.versions j ≡ Some v → publication_at packages p j ≡ Some v
  published j v e = seen j ∙ e

  candidate : (v : Publication) → is_candidate wanted pack.name v ≡ is_open need locked v
  candidate v = ap (λ b. (not v.yanked || b) && meets_needs wanted.needs pack.name v.version) (named v.version) ∙ ap (λ b. (not v.yanked || locks locked v.version) && b) (met v.version)

  -- a candidate that the lock names
  kept : (v : Publication) → (is_candidate wanted pack.name v && is_locked wanted.lock pack.name v.version) ≡ is_kept need locked v
  kept v = ap (λ b. b && is_locked wanted.lock pack.name v.version) (candidate v) ∙ ap (λ b. is_open need locked v && b) (named v.version) ∙ by v.yanked (locks locked v.version) (admits need v.version)
    where
      by : (y l a : Bool) → ((not y || l) && a && l) ≡ (l && a)
      by true true true = refl
      by true true false = refl
      by true false true = refl
      by true false false = refl
      by false true true = refl
      by false true false = refl
      by false false true = refl
      by false false false = refl

  abbrev kept_test : Publication → Bool
  kept_test v = is_candidate wanted pack.name v && is_locked wanted.lock pack.name v.version

  locked_candidate-is : locked_candidate wanted pack ≡ find (λ (c : ℕ × Publication). kept_test c.1) (enumerate_from 0 pack.versions)
  locked_candidate-is =
      find-filter (λ (c : ℕ × Publication). is_candidate wanted pack.name c.1) (λ (c : ℕ × Publication). is_locked wanted.lock pack.name c.1.version) (enumerate_from 0 pack.versions)

  locked-some : (k : ℕ) (v : Publication) → slice_get pack.versions k ≡ Some v → is_kept need locked v ≡ true
      → ((j : ℕ) → is_kept_at need locked (publication_at packages p j) ≡ true → j ≡ k) → locked_candidate wanted pack ≡ Some (k, v)
  locked-some k v here passes only =
      let place : 0 + k ≡ k = omega arith in
      locked_candidate-is
      ∙ find-only kept_test 0 pack.versions k v here (kept v ∙ passes)
      (λ j u there t. only j (ap (is_kept_at need locked) (published j u there) ∙ sym (kept u) ∙ t))
      ∙ ap (λ n. Some (n, v)) place

  locked-none : ((k : ℕ) (v : Publication) → slice_get pack.versions k ≡ Some v → is_kept need locked v ≡ false) → locked_candidate wanted pack ≡ None
  locked-none fails = locked_candidate-is ∙ find-none kept_test 0 pack.versions (λ k v here. kept v ∙ fails k v here)

  -- no candidate is higher
  abbrev is_top : Publication → Bool
  is_top v = list_all (λ (other : ℕ × Publication). not (is_lt (precedence v.version other.1.version))) (candidates wanted pack)

  abbrev top_test : Publication → Bool
  top_test v = is_candidate wanted pack.name v && is_top v

  highest_candidate-is : highest_candidate wanted pack ≡ find (λ (c : ℕ × Publication). top_test c.1) (enumerate_from 0 pack.versions)
  highest_candidate-is = find-filter (λ (c : ℕ × Publication). is_candidate wanted pack.name c.1) (λ (c : ℕ × Publication). is_top c.1) (enumerate_from 0 pack.versions)

  not_below : (a b : Text) → (precedence a b ≡ Less → ⊥) → not (is_lt (precedence a b)) ≡ true
  not_below a b h = by (precedence a b) refl
    where
      by : (r : Ordering) → precedence a b ≡ r → not (is_lt r) ≡ true
      by Less e = absurd (h e)
      by Equal e = refl
      by Greater e = refl

  -- a candidate than which none is higher is the highest that is open
  top_highest : (j : ℕ) (u : Publication) → slice_get pack.versions j ≡ Some u → top_test u ≡ true → Highest packages p (is_open_at need locked) j
  top_highest j u there t =
      let parts = and_parts (is_candidate wanted pack.name u) (is_top u) t in
      record {
        published = subst (λ (o : Option Package). j < length (versions_or_none o)) (sym at) (slice_get_within pack.versions j u there);
        passes = ap (is_open_at need locked) (published j u there) ∙ sym (candidate u) ∙ parts.0;
        fails = λ l version other at_j at_l less.
            let same : u ≡ version = same_Some u version (sym there ∙ in_pack j version at_j) in
            lower l u other (in_pack l other at_l) parts.1 (ap (λ (w : Publication). precedence w.version other.version) same ∙ less);
      }
    where
      in_pack : (l : ℕ) (w : Publication) → slice_get (versions_or_none (package_at packages p)) l ≡ Some w → slice_get pack.versions l ≡ Some w
      in_pack l w e = sym (ap (λ (o : Option Package). slice_get (versions_or_none o) l) at) ∙ e

      lower : (l : ℕ) (u other : Publication) → slice_get pack.versions l ≡ Some other → is_top u ≡ true → precedence u.version other.version ≡ Less
          → is_open_at need locked (publication_at packages p l) ≡ false
      lower l u other here top less = elim (cases_Bool (is_open need locked other)) [
        | inl e ↦
            let above = passing-all (is_candidate wanted pack.name) (λ w. not (is_lt (precedence u.version w.version))) 0 pack.versions l other top here (candidate other ∙ e) in
            absurd (true≢false (sym above ∙ ap (λ o. not (is_lt o)) less))
        | inr e ↦ ap (is_open_at need locked) (published l other here) ∙ e
      ]

  highest-some : HighestIsOne → IsRegistry packages → (k : ℕ) (v : Publication) → slice_get pack.versions k ≡ Some v → is_open need locked v ≡ true → Highest packages p (is_open_at need locked) k
      → ((j : ℕ) (u : Publication) → slice_get pack.versions j ≡ Some u → precedence v.version u.version ≡ Less → is_open need locked u ≡ false) → highest_candidate wanted pack ≡ Some (k, v)
  highest-some one lawful k v here passes highest fails =
      let place : 0 + k ≡ k = omega arith in
      highest_candidate-is
      ∙ find-only top_test 0 pack.versions k v here here_passes
      (λ j u there t. one packages p (λ i. is_open_at need locked (publication_at packages p i)) j k lawful (top_highest j u there t) highest)
      ∙ ap (λ n. Some (n, v)) place
    where
      own : is_candidate wanted pack.name v ≡ true
      own = candidate v ∙ passes

      top : is_top v ≡ true
      top = all-passing (is_candidate wanted pack.name) (λ u. not (is_lt (precedence v.version u.version))) 0 pack.versions
          (λ j u there t. not_below v.version u.version (λ lower. true≢false (sym (sym (candidate u) ∙ t) ∙ fails j u there lower)))

      here_passes : top_test v ≡ true
      here_passes = ap (λ b. b && is_top v) own ∙ top

  highest-none : ((k : ℕ) (v : Publication) → slice_get pack.versions k ≡ Some v → is_open need locked v ≡ false) → highest_candidate wanted pack ≡ None
  highest-none fails = highest_candidate-is ∙ find-none top_test 0 pack.versions (λ k v here. ap (λ b. b && is_top v) (candidate v ∙ fails k v here))

  -- ---- from what is known by ordinal

  each-fails : (test : Option Publication → Bool) → Fails packages p test → (k : ℕ) (v : Publication) → slice_get pack.versions k ≡ Some v → test (Some v) ≡ false
  each-fails test fails k v here =
      let within : k < length pack.versions = slice_get_within pack.versions k v here in
      ap test (sym (published k v here)) ∙ fails k (subst (λ (o : Option Package). k < length (versions_or_none o)) (sym at) within)

  -- the publication that is highest
  top_of : (test : Option Publication → Bool) (k : ℕ) → Highest packages p test k → (v : Publication) × (slice_get pack.versions k ≡ Some v) × (test (Some v) ≡ true)
  top_of test k h =
      let within : k < length pack.versions = subst (λ (o : Option Package). k < length (versions_or_none o)) at h.published in
      let v = get-some pack.versions k within in
      (v.0, v.1, ap test (sym (published k v.0 v.1)) ∙ h.passes)

  preferred-is : preferred packages wanted p ≡ preferred_in wanted pack
  unfolding preferred
  preferred-is = ap (λ (o : Option Package). option_and_then (preferred_in wanted) o) at

  abbrev first_of : Option (ℕ × Publication) → Option (ℕ × Publication) → Option ℕ
  first_of one two = option_map (λ (c : ℕ × Publication). c.0) (option_or one two)

  -- the publication that passes a test which none passes where nothing is published
  passing : (test : Option Publication → Bool) (k : ℕ) → test None ≡ false → test (publication_at packages p k) ≡ true → (v : Publication) × (slice_get pack.versions k ≡ Some v) × (test (Some v) ≡ true)
  passing test k none t = by (slice_get pack.versions k) refl (ap test (sym (seen k)) ∙ t)
    where
      by : (o : Option Publication) → slice_get pack.versions k ≡ o → test o ≡ true → (v : Publication) × (slice_get pack.versions k ≡ Some v) × (test (Some v) ≡ true)
      by None is h = absurd (true≢false (sym h ∙ none))
      by (Some v) is h = (v, is, h)

  -- the version that the lock names is preferred
  preferred-kept : (k : ℕ) → is_kept_at need locked (publication_at packages p k) ≡ true → ((j : ℕ) → is_kept_at need locked (publication_at packages p j) ≡ true → j ≡ k)
      → preferred packages wanted p ≡ Some k
  preferred-kept k t only =
      let v = passing (is_kept_at need locked) k refl t in
      preferred-is ∙ ap (λ o. first_of o (highest_candidate wanted pack)) (locked-some k v.0 v.1 v.2 only)

  -- else the highest that is open
  preferred-open : HighestIsOne → IsRegistry packages → (k : ℕ) → Fails packages p (is_kept_at need locked) → Highest packages p (is_open_at need locked) k → preferred packages wanted p ≡ Some k
  preferred-open one lawful k fails h =
      let v = top_of (is_open_at need locked) k h in
      let lower = λ (j : ℕ) (u : Publication) (there : slice_get pack.versions j ≡ Some u) (less : precedence v.0.version u.version ≡ Less).
      ap (is_open_at need locked) (sym (published j u there))
      ∙ h.fails j v.0 u (ap (λ (o : Option Package). slice_get (versions_or_none o) k) at ∙ v.1) (ap (λ (o : Option Package). slice_get (versions_or_none o) j) at ∙ there) less in
      preferred-is
      ∙ ap (λ o. first_of o (highest_candidate wanted pack)) (locked-none (each-fails (is_kept_at need locked) fails))
      ∙ ap (λ o. first_of None o) (highest-some one lawful k v.0 v.1 v.2 h lower)

  -- and where none is open there is none
  preferred-none : Fails packages p (is_kept_at need locked) → Fails packages p (is_open_at need locked) → preferred packages wanted p ≡ None
  preferred-none kept_fails open_fails =
      preferred-is
      ∙ ap (λ o. first_of o (highest_candidate wanted pack)) (locked-none (each-fails (is_kept_at need locked) kept_fails))
      ∙ ap (λ o. first_of None o) (highest-none (each-fails (is_open_at need locked) open_fails))

-- a package that is not numbered has none
pub preferred-unnumbered : (packages : Packages) (wanted : Wanted) (p : ℕ) → package_at packages p ≡ None → preferred packages wanted p ≡ None
unfolding preferred
preferred-unnumbered packages wanted p e = ap (λ (o : Option Package). option_and_then (preferred_in wanted) o) e

-- a package that has a name is there
pub package-named : (packages : Packages) (p : ℕ) (name : Text) → option_map (λ (x : Package). x.name) (package_at packages p) ≡ Some name
    → (pack : Package) × (package_at packages p ≡ Some pack) × (pack.name ≡ name)
package-named packages p name e = by (package_at packages p) refl
  where
    by : (o : Option Package) → package_at packages p ≡ o → (pack : Package) × (package_at packages p ≡ Some pack) × (pack.name ≡ name)
    by None at = absurd (none-some name (sym (ap (λ (o : Option Package). option_map (λ (x : Package). x.name) o) at) ∙ e))
    by (Some pack) at = (pack, at, same_Some pack.name name (sym (ap (λ (o : Option Package). option_map (λ (x : Package). x.name) o) at) ∙ e))

-- and one that has none is not
pub package-unnamed : (packages : Packages) (p : ℕ) → None ≡ option_map (λ (x : Package). x.name) (package_at packages p) → package_at packages p ≡ None
package-unnamed packages p e = by (package_at packages p) e
  where
    by : (o : Option Package) → None ≡ option_map (λ (x : Package). x.name) o → o ≡ None
    by None none = refl
    by (Some pack) none = absurd (none-some pack.name none)

-- what a package of this name prefers, by the lines of its name
module _ (packages : Packages) (wanted : Wanted) (p : ℕ) (name : Text) (named : Some name ≡ option_map (λ (x : Package). x.name) (package_at packages p)) (need locked : Option Text)
    (is_need : (version : Text) → meets_needs wanted.needs name version ≡ admits need version) (is_line : (version : Text) → is_locked wanted.lock name version ≡ locks locked version) where
  found : (pack : Package) × (package_at packages p ≡ Some pack) × (pack.name ≡ name)
  found = package-named packages p name (sym named)

  own_need : (version : Text) → meets_needs wanted.needs found.0.name version ≡ admits need version
  own_need version = ap (λ t. meets_needs wanted.needs t version) found.2 ∙ is_need version

  own_line : (version : Text) → is_locked wanted.lock found.0.name version ≡ locks locked version
  own_line version = ap (λ t. is_locked wanted.lock t version) found.2 ∙ is_line version

  -- the version that the lock names, where there is one
  pub preferred-locked : (k : ℕ) → is_kept_at need locked (publication_at packages p k) ≡ true → ((j : ℕ) → is_kept_at need locked (publication_at packages p j) ≡ true → j ≡ k)
      → Some k ≡ preferred packages wanted p
  preferred-locked k h only = sym (preferred-kept packages wanted p found.0 found.1 need locked own_need own_line k h only)

  -- else the highest, where there is one
  pub preferred-unlocked : HighestIsOne → IsRegistry packages → Fails packages p (is_kept_at need locked) → (o : Option ℕ) → IfSome o (Highest packages p (is_open_at need locked))
      → IfNone o (Fails packages p (is_open_at need locked)) → o ≡ preferred packages wanted p
  preferred-unlocked one lawful fails None some none = sym (preferred-none packages wanted p found.0 found.1 need locked own_need own_line fails none)
  preferred-unlocked one lawful fails (Some k) some none = sym (preferred-open packages wanted p found.0 found.1 need locked own_need own_line one lawful k fails some)

-- ---- the preferred selection

module _ (packages : Packages) (wanted : Wanted) where
  -- a preferred selection follows the preferred versions
  pub preferred_follows : (s : Choices) → IsPreferredSelection packages wanted s → Follows (preferred packages wanted) s
  preferred_follows s h p k at =
      let here = h.reached p (h.others p k at) in
      here.1 ∙ sym here.2 ∙ at

  -- what follows the preferred versions and meets the request is preferred
  pub followed_preferred : (s : Choices) → Follows (preferred packages wanted) s → Meets packages wanted s → IsPreferredSelection packages wanted s
  followed_preferred s follows meets = record {
    reached = λ p r. let x = selected packages wanted (preferred packages wanted) s follows meets p r in (x.0, follows p x.0 x.1, x.1);
    others = λ p k at. reached_by_both packages wanted (preferred packages wanted) s follows meets p (meets.reached p k at);
  }

  -- there is one preferred selection
  pub one_preferred : OnePreferredSelection → (s t : Choices) → IsPreferredSelection packages wanted s → IsPreferredSelection packages wanted t → s ≡ t
  one_preferred once s t one two = λ i p. once packages wanted s t one two p i
