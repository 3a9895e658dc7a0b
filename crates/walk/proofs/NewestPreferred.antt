-- Nothing that can be had is preferred to a preferred version; and what comes next in the walk of a selection.
use Rattle.std.proofs.Common.{◌≡◌, ◌∙◌, ◌+◌, inl, inr, ℕ, zero, suc, List, [], ◌∷◌, refl, sym, ap, subst, arith, true, false, true≢false, ◌&&◌, ◌||◌, not, Bool, Contains}
use Rattle.std.proofs.lemmas.Bool.{cases_Bool, and_parts, or_parts, not-true}
use Rattle.std.proofs.lemmas.Option.{none-some, same_Some}
use Rattle.std.proofs.lemmas.Slice.Eq.{bytes_eq-Decides}
use Rattle.std.specs.Prelude.{None, Option, Some, find, slice_get}
use Rattle.std.specs.List.{enumerate_from, list_all}
use Rattle.std.specs.Option.{option_map, option_or}
use Rattle.std.specs.Ordering.{is_eq, is_lt}
use Rattle.std.specs.declared.cmp.Ordering.{Ordering}
use Rattle.std.specs.declared.cmp.Ordering.TheVariants.{Less, Equal, Greater}
use Rattle.std.specs.Str.{bytes_eq}
use Rattle.versions.specs.Precedence.{EqualPrecedenceIsATie, EqualPrecedenceIsAnEquivalence}
use Rattle.versions.specs.Words.{Text, meets, precedence, same_precedence}
use Rattle.registry.specs.Laws.{NamesHaveTheirNumbers}
use Rattle.registry.specs.Lawful.{IsRegistry}
use Rattle.registry.specs.Needs.{has_name, repeats_name}
use Rattle.registry.specs.Preference.{candidates, highest_candidate, is_candidate, locked_candidate, meets_needs, preferred_in}
use Rattle.registry.specs.Registry.{Package, Packages, Publication, needs_of, number_of, package_at, publication_at, publication_meets}
use Rattle.registry.specs.Requests.{Wanted, allows, is_locked}
use Rattle.registry.specs.Selections.{Choices, IsMet, IsReached, Meets, along, needed}
use Rattle.walk.specs.Newest.{is_preferred_to, next_package}
use Rattle.walk.proofs.Listings.{next_named}
use Rattle.walk.proofs.NewestLaws.{met_by}
use Rattle.walk.proofs.Preferring.{find-filter, passing-all}
use Rattle.walk.proofs.Publications.{is_allowed-published, publication_at-package}
use Rattle.walk.proofs.Steps.{met_at}

-- ---- a lock names a package once

module _ (equal : EqualPrecedenceIsAnEquivalence) where
  unnamed : (lock : List (Text × Text)) (name version : Text) → has_name lock name ≡ false → is_locked lock name version ≡ false
  unnamed [] name version e = refl
  unnamed (l ∷ rest) name version e =
      let parts = or_parts (bytes_eq name l.0) (has_name rest name) e in
      rw parts.0 (unnamed rest name version parts.1)

  locked-once : (lock : List (Text × Text)) (name a b : Text) → repeats_name lock ≡ false → is_locked lock name a ≡ true → is_locked lock name b ≡ true → same_precedence a b ≡ true
  locked-once [] name a b once one two = absurd (true≢false (sym one))
  locked-once (l ∷ rest) name a b once one two = elim (cases_Bool (bytes_eq name l.0)) [
    | inl t ↦
        let parts = or_parts (has_name rest l.0) (repeats_name rest) once in
        let none : has_name rest name ≡ false = ap (has_name rest) ((bytes_eq-Decides name l.0).0 t) ∙ parts.0 in
        let here : (v : Text) → is_locked (l ∷ rest) name v ≡ true → same_precedence l.1 v ≡ true = λ v e. alone (same_precedence l.1 v) (is_locked rest name v) (rw t at e) (unnamed rest name v none) in
        equal.congr a l.1 b (equal.symm a l.1 ∙ here a one) ∙ here b two
    | inr f ↦
        let parts = or_parts (has_name rest l.0) (repeats_name rest) once in
        locked-once rest name a b parts.1 (rw f at one) (rw f at two)
  ]
    where
      alone : (x y : Bool) → (x || y) ≡ true → y ≡ false → x ≡ true
      alone true y e f = refl
      alone false y e f = absurd (true≢false (sym e ∙ f))

-- ---- what is found among those that pass a test

module _ {A : Type 0} where
  -- what is found passes, and stands at its place
  found-passes : (f : ℕ × A → Bool) (n : ℕ) (xs : List A) (c : ℕ × A) → find f (enumerate_from n xs) ≡ Some c → (f c ≡ true) × ((i : ℕ) × (c.0 ≡ n + i) × (slice_get xs i ≡ Some c.1))
  found-passes f n [] c e = absurd (none-some c e)
  found-passes f n (x ∷ xs) c e = elim (cases_Bool (f (n, x))) [
    | inl t ↦
        let same : (n, x) ≡ c = same_Some (n, x) c (rw t at e) in
        let place : n ≡ n + 0 = omega arith in
        (ap f (sym same) ∙ t, (0, sym (ap (λ (z : ℕ × A). z.0) same) ∙ place, ap Some (ap (λ (z : ℕ × A). z.1) same)))
    | inr fails ↦
        let rest = found-passes f (n + 1) xs c (rw fails at e) in
        let place : n + 1 + rest.1.0 ≡ n + suc rest.1.0 = omega arith in
        (rest.0, (suc rest.1.0, rest.1.1 ∙ place, rest.1.2))
  ]

  none-passes : (f : ℕ × A → Bool) (n : ℕ) (xs : List A) (j : ℕ) (y : A) → find f (enumerate_from n xs) ≡ None → slice_get xs j ≡ Some y → f (n + j, y) ≡ false
  none-passes f n [] j y e at = absurd (none-some y at)
  none-passes f n (x ∷ xs) zero y e at = elim (cases_Bool (f (n, x))) [
    | inl t ↦ absurd (none-some (n, x) (sym (rw t at e)))
    | inr fails ↦ let place : n + 0 ≡ n = omega arith in ap (λ k. f (k, y)) place ∙ ap (λ z. f (n, z)) (sym (same_Some x y at)) ∙ fails
  ]
  none-passes f n (x ∷ xs) (suc j) y e at = elim (cases_Bool (f (n, x))) [
    | inl t ↦ absurd (none-some (n, x) (sym (rw t at e)))
    | inr fails ↦ let place : n + suc j ≡ n + 1 + j = omega arith in ap (λ k. f (k, y)) place ∙ none-passes f (n + 1) xs j y (rw fails at e) at
  ]

-- ---- nothing is preferred to the preferred version

module _ (equal : EqualPrecedenceIsAnEquivalence) (tie : EqualPrecedenceIsATie) (packages : Packages) (wanted : Wanted) (once : repeats_name wanted.lock ≡ false) (p : ℕ) (pack : Package)
    (at : package_at packages p ≡ Some pack) where
  not_lower : (a b : Text) → same_precedence a b ≡ true → is_lt (precedence a b) ≡ false
  not_lower a b same = by (precedence a b) refl
    where
      by : (o : Ordering) → precedence a b ≡ o → is_lt o ≡ false
      by Less e = absurd (true≢false (sym same ∙ tie a b ∙ ap is_eq e))
      by Equal e = refl
      by Greater e = refl

  pub best : (j k : ℕ) (one other : Publication) → slice_get pack.versions j ≡ Some one → is_candidate wanted pack.name one ≡ true → publication_at packages p k ≡ Some other
      → preferred_in wanted pack ≡ Some k → is_preferred_to wanted pack.name one other ≡ true → ⊥
  best j k one other at_j passes at_k chosen ahead = by (locked_candidate wanted pack) refl
    where
      test : ℕ × Publication → Bool
      test c = is_candidate wanted pack.name c.1

      locked_test : ℕ × Publication → Bool
      locked_test c = is_locked wanted.lock pack.name c.1.version

      top : ℕ × Publication → Bool
      top c = list_all (λ (x : ℕ × Publication). not (is_lt (precedence c.1.version x.1.version))) (candidates wanted pack)

      -- what stands at the place is the other version
      other_is : (c : ℕ × Publication) → c.0 ≡ k → (i : ℕ) → c.0 ≡ 0 + i → slice_get pack.versions i ≡ Some c.1 → c.1 ≡ other
      other_is c here i place there =
          let found = publication_at-package packages p k other at_k in
          let same : found.0 ≡ pack = same_Some found.0 pack (sym found.1 ∙ at) in
          let index : i ≡ k = omega (arith, here, place) in
          same_Some c.1 other (sym there ∙ ap (slice_get pack.versions) index ∙ sym (ap (λ (q : Package). slice_get q.versions k) same) ∙ found.2)

      first_is : (o : Option (ℕ × Publication)) (h : Option (ℕ × Publication)) → locked_candidate wanted pack ≡ o → highest_candidate wanted pack ≡ h → option_map (λ (c : ℕ × Publication). c.0) (option_or o h) ≡ Some k
      first_is o h e f = sym (ap (λ x. option_map (λ (c : ℕ × Publication). c.0) (option_or x h)) e) ∙ sym (ap (λ x. option_map (λ (c : ℕ × Publication). c.0) (option_or (locked_candidate wanted pack) x)) f) ∙ chosen

      lower : is_locked wanted.lock pack.name one.version ≡ false → is_lt (precedence other.version one.version) ≡ false → ⊥
      lower unlocked low = true≢false (sym ahead ∙ rw (unlocked, low) (nothing (is_locked wanted.lock pack.name other.version)))
        where
          nothing : (b : Bool) → ((false && not b) || ((false || not b) && false)) ≡ false
          nothing true = refl
          nothing false = refl

      locked : is_locked wanted.lock pack.name other.version ≡ true → ⊥
      locked here = elim (cases_Bool (is_locked wanted.lock pack.name one.version)) [
        | inl t ↦ true≢false (sym ahead ∙ rw (t, here, not_lower other.version one.version (locked-once equal wanted.lock pack.name other.version one.version once here t)) refl)
        | inr f ↦ true≢false (sym ahead ∙ rw (f, here) refl)
      ]

      highest : locked_candidate wanted pack ≡ None → (h : Option (ℕ × Publication)) → highest_candidate wanted pack ≡ h → ⊥
      highest none None e = none-some k (first_is None None none e)
      highest none (Some c) e =
          let here : c.0 ≡ k = same_Some c.0 k (first_is None (Some c) none e) in
          let got = found-passes (λ x. test x && top x) 0 pack.versions c (sym (find-filter test top (enumerate_from 0 pack.versions)) ∙ e) in
          let parts = and_parts (test c) (top c) got.0 in
          let is : c.1 ≡ other = other_is c here got.1.0 got.1.1 got.1.2 in
          let free = none-passes (λ x. test x && locked_test x) 0 pack.versions j one (sym (find-filter test locked_test (enumerate_from 0 pack.versions)) ∙ none) at_j in
          let high = passing-all (is_candidate wanted pack.name) (λ (v : Publication). not (is_lt (precedence c.1.version v.version))) 0 pack.versions j one parts.1 at_j passes in
          lower (rw passes at free) (not-true (is_lt (precedence other.version one.version)) (subst (λ (v : Publication). not (is_lt (precedence v.version one.version)) ≡ true) is high))

      by : (o : Option (ℕ × Publication)) → locked_candidate wanted pack ≡ o → ⊥
      by None e = highest e (highest_candidate wanted pack) refl
      by (Some c) e =
          let here : c.0 ≡ k = same_Some c.0 k (first_is (Some c) (highest_candidate wanted pack) e refl) in
          let got = found-passes (λ x. test x && locked_test x) 0 pack.versions c (sym (find-filter test locked_test (enumerate_from 0 pack.versions)) ∙ e) in
          let parts = and_parts (test c) (locked_test c) got.0 in
          let is : c.1 ≡ other = other_is c here got.1.0 got.1.1 got.1.2 in
          locked (ap (λ (v : Publication). is_locked wanted.lock pack.name v.version) (sym is) ∙ parts.1)

-- ---- what a selection that meets the request has is a candidate

pub candidate : NamesHaveTheirNumbers → (packages : Packages) (wanted : Wanted) (s : Choices) (p j : ℕ) (pack : Package) (v : Publication) → IsRegistry packages → Meets packages wanted s → s p ≡ Some j → package_at packages p ≡ Some pack
    → publication_at packages p j ≡ Some v → is_candidate wanted pack.name v ≡ true
candidate numbers packages wanted s p j pack v lawful m chosen at at_j = rw (is_open, needs wanted.needs m.needs) refl
  where
    is_open : allows wanted pack.name v ≡ true
    is_open = sym (is_allowed-published packages wanted p j pack v at_j at) ∙ m.allowed p j chosen

    needs : (lines : List (Text × Text)) → ((name need : Text) → Contains lines (name, need) → IsMet packages s name need) → meets_needs lines pack.name v.version ≡ true
    needs [] h = refl
    needs (n ∷ rest) h = elim (cases_Bool (bytes_eq pack.name n.0)) [
      | inl t ↦
          let met = met_by packages s n.0 n.1 p j (h n.0 n.1 (0, omega arith, refl)) (sym (ap (number_of packages) ((bytes_eq-Decides pack.name n.0).0 t)) ∙ numbers packages p pack lawful at) chosen in
          let here : meets n.1 v.version ≡ true = sym (ap (λ o. publication_meets o n.1) at_j) ∙ met in
          rw (t, here) (needs rest (λ name need among. h name need (suc among.0, omega (arith, among.1), among.2)))
      | inr f ↦ rw f (needs rest (λ name need among. h name need (suc among.0, omega (arith, among.1), among.2)))
    ]

-- ---- the walk

-- what comes next has a version, where a selection meets the request and has the versions before
pub next_met : (packages : Packages) (wanted : Wanted) (t : Choices) (found : List (ℕ × ℕ)) (p : ℕ) → Meets packages wanted t → ((i : ℕ) (e : ℕ × ℕ) → slice_get found i ≡ Some e → t e.0 ≡ Some e.1)
    → next_package packages wanted.needs found ≡ Some p → (k : ℕ) × (t p ≡ Some k)
next_met packages wanted t found p meets chosen next =
    let named = next_named packages wanted.needs found p next in
    let line = named.0 in
    let met : IsMet packages t line.0 line.1 = elim named.3 [
      | inl need ↦ meets.needs line.0 line.1 need
      | inr on ↦ meets.closed on.1.0 on.1.1 line.0 line.1 (chosen on.0 on.1 on.2) on.3
    ] in
    let here = met_at packages t line.0 line.1 p met named.1 in
    (here.0, here.1)

-- what holds of each package that is needed, and where it holds of a package of each that its version depends on, holds of each that is reached
pub holds-reached : (packages : Packages) (needs : List (Text × Text)) (s : Choices) (P : ℕ → Type 0)
    → ((p : ℕ) (name need : Text) → Contains needs (name, need) → number_of packages name ≡ Some p → P p)
    → ((from k to : ℕ) (name need : Text) → P from → s from ≡ Some k → Contains (needs_of packages from k) (name, need) → number_of packages name ≡ Some to → P to)
    → (p : ℕ) → IsReached packages needs s p → P p
holds-reached packages needs s P first next _ (needed p name need among at) = first p name need among at
holds-reached packages needs s P first next _ (along from k to name need reached chosen among at) =
    next from k to name need (holds-reached packages needs s P first next from reached) chosen among at
