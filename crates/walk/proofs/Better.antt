-- Versions that are preferred to a selected one, and what shows that they are not to be had.
use Rattle.std.proofs.Common.{◌≡◌, ◌∙◌, ℕ, refl, sym, ap, subst, ◌⊎◌, inl, inr, List, ◌&&◌, ◌||◌, not, Bool, true, false, true≢false}
use Rattle.std.proofs.lemmas.Option.{same_Some}
use Rattle.std.specs.Prelude.{IfNone, IfSome, None, Option, Some}
use Rattle.std.specs.Option.{option_map}
use Rattle.std.specs.Ordering.{is_lt}
use Rattle.std.specs.declared.cmp.Ordering.{Ordering}
use Rattle.std.specs.declared.cmp.Ordering.TheVariants.{Less, Equal, Greater}
use Rattle.versions.specs.Precedence.{PrecedenceIsATotalPreorder}
use Rattle.versions.specs.Words.{Text, precedence}
use Rattle.registry.specs.Highest.{IsHighest}
use Rattle.registry.specs.Registry.{Package, Packages, Publication, equals_at, package_at, publication_at, publication_equals, versions_or_none}
use Rattle.registry.specs.Requests.{Wanted, is_locked, locks}
use Rattle.walk.specs.Newest.{IsAhead, IsBest, IsOut}
use Rattle.walk.specs.PlainlyNewest.{AreHigherOut, IsLocked, NoneLocked, is_locked_at, locks_some}
use Rattle.walk.proofs.Preferring.{package-named}
use Rattle.walk.proofs.Publications.{listed_at, own}

-- ---- what the lock names

pub locked_at : (packages : Packages) (wanted : Wanted) (p k : ℕ) (pack : Package) (v : Publication) → package_at packages p ≡ Some pack → publication_at packages p k ≡ Some v
    → is_locked_at packages wanted p k ≡ is_locked wanted.lock pack.name v.version
locked_at packages wanted p k pack v of at = ap (λ o. locks_some wanted o (publication_at packages p k)) of ∙ ap (λ o. locks_some wanted (Some pack) o) at

abbrev locks_at : Option Text → Option Publication → Bool
locks_at line None = false
locks_at line (Some v) = locks line v.version

-- without a line nothing is named, else what has the precedence of the line's version
without_line : (o : Option Publication) → locks_at None o ≡ false
without_line None = refl
without_line (Some v) = refl

with_line : (locked : Text) (o : Option Publication) → locks_at (Some locked) o ≡ publication_equals o locked
with_line locked None = refl
with_line locked (Some v) = refl

pub unnumbered : (packages : Packages) (wanted : Wanted) (p : ℕ) → package_at packages p ≡ None → NoneLocked packages wanted p
unnumbered packages wanted p none k = ap (λ o. locks_some wanted o (publication_at packages p k)) none

module _ (packages : Packages) (wanted : Wanted) (p : ℕ) (name : Text) (named : Some name ≡ option_map (λ (x : Package). x.name) (package_at packages p)) (line : Option Text)
    (says : (version : Text) → is_locked wanted.lock name version ≡ locks line version) where
  by_line : (k : ℕ) → is_locked_at packages wanted p k ≡ locks_at line (publication_at packages p k)
  by_line k = by (publication_at packages p k) refl
    where
      pack : (pack : Package) × (package_at packages p ≡ Some pack) × (pack.name ≡ name)
      pack = package-named packages p name (sym named)

      by : (o : Option Publication) → publication_at packages p k ≡ o → is_locked_at packages wanted p k ≡ locks_at line o
      by None e = ap (λ o. locks_some wanted o (publication_at packages p k)) pack.1 ∙ ap (λ o. locks_some wanted (Some pack.0) o) e
      by (Some v) e = locked_at packages wanted p k pack.0 v pack.1 e ∙ ap (λ t. is_locked wanted.lock t v.version) pack.2 ∙ says v.version

  pub unlocked : line ≡ None → NoneLocked packages wanted p
  unlocked none k = by_line k ∙ ap (λ o. locks_at o (publication_at packages p k)) none ∙ without_line (publication_at packages p k)

  module _ (locked : Text) (is : line ≡ Some locked) where
    by_version : (k : ℕ) → is_locked_at packages wanted p k ≡ equals_at packages p k locked
    by_version k = by_line k ∙ ap (λ o. locks_at o (publication_at packages p k)) is ∙ with_line locked (publication_at packages p k)

    unpublished : ((k : ℕ) → equals_at packages p k locked ≡ false) → NoneLocked packages wanted p
    unpublished none k = by_version k ∙ none k

    only_locked : (k : ℕ) → equals_at packages p k locked ≡ true → ((j : ℕ) → equals_at packages p j locked ≡ true → j ≡ k) → IsLocked packages wanted p k
    only_locked k here only = record { locked = by_version k ∙ here; only = λ j e. only j (sym (by_version j) ∙ e) }

    pub locked_if : (o : Option ℕ) → IfSome o (λ k. equals_at packages p k locked ≡ true) → IfSome o (λ k. (j : ℕ) → equals_at packages p j locked ≡ true → j ≡ k) → IfSome o (IsLocked packages wanted p)
    locked_if None here only = tt
    locked_if (Some k) here only = only_locked k here only

    pub unlocked_if : (o : Option ℕ) → IfNone o ((k : ℕ) → equals_at packages p k locked ≡ false) → IfNone o (NoneLocked packages wanted p)
    unlocked_if None none = unpublished none
    unlocked_if (Some k) none = tt

-- ---- which of the two is preferred

preferred_cases : (one other above : Bool) → ((one && not other) || ((one || not other) && above)) ≡ true → ((one ≡ true) × (other ≡ false)) ⊎ (((one ≡ true) ⊎ (other ≡ false)) × (above ≡ true))
preferred_cases true true above h = inr (inl refl, h)
preferred_cases true false above h = inl (refl, refl)
preferred_cases false true above h = absurd (true≢false (sym h))
preferred_cases false false above h = inr (inr refl, h)

pub less_is : (a b : Text) → is_lt (precedence a b) ≡ true → precedence a b ≡ Less
less_is a b h = by (precedence a b) refl
  where
    by : (o : Ordering) → precedence a b ≡ o → precedence a b ≡ Less
    by Less e = e
    by Equal e = absurd (true≢false (sym h ∙ ap is_lt e))
    by Greater e = absurd (true≢false (sym h ∙ ap is_lt e))

module _ (packages : Packages) (wanted : Wanted) (p k : ℕ) where
  -- a preferred version is locked and this one is not; or it is higher, and locked too or none of them
  pub ahead_cases : (j : ℕ) → (a : IsAhead packages wanted p j k)
      → ((is_locked_at packages wanted p j ≡ true) × (is_locked_at packages wanted p k ≡ false))
      ⊎ (((is_locked_at packages wanted p j ≡ true) ⊎ (is_locked_at packages wanted p k ≡ false)) × (precedence a.other.version a.one.version ≡ Less))
  ahead_cases j a =
      let one = locked_at packages wanted p j a.pack a.one a.of a.first in
      let other = locked_at packages wanted p k a.pack a.other a.of a.second in
      elim (preferred_cases (is_locked wanted.lock a.pack.name a.one.version) (is_locked wanted.lock a.pack.name a.other.version) (is_lt (precedence a.other.version a.one.version)) a.preferred) [
        | inl locked ↦ inl (one ∙ locked.0, other ∙ locked.1)
        | inr higher ↦ elim higher.0 [
          | inl locked ↦ inr (inl (one ∙ locked), less_is a.other.version a.one.version higher.1)
          | inr unlocked ↦ inr (inr (other ∙ unlocked), less_is a.other.version a.one.version higher.1)
        ]
      ]

  -- no version is preferred to itself
  pub not_ahead : PrecedenceIsATotalPreorder → IsAhead packages wanted p k k → ⊥
  not_ahead total a = elim (ahead_cases k a) [
    | inl locked ↦ true≢false (sym locked.0 ∙ locked.1)
    | inr above ↦ own total a.one.version (ap (λ (x : Publication). precedence x.version a.one.version) (same_Some a.one a.other (sym a.first ∙ a.second)) ∙ above.1)
  ]

  -- behind what fails a test, each version of higher precedence than the highest that passes it is out
  pub higher_out : (before : List (ℕ × ℕ)) (Gives : ℕ → Bool → Type 0) → IsHighest Gives (versions_or_none (package_at packages p)) k → ((j : ℕ) → Gives j false → IsOut packages wanted before p j)
      → AreHigherOut packages wanted before p k
  higher_out before Gives h out j one other at_j at_k less = out j (h.fails j other one (listed_at packages p k other at_k) (listed_at packages p j one at_j) less)

  module _ (before : List (ℕ × ℕ)) where
    -- where the lock names none
    pub best_unlocked : NoneLocked packages wanted p → AreHigherOut packages wanted before p k → IsBest packages wanted before p k
    best_unlocked none higher j a = elim (ahead_cases j a) [
      | inl locked ↦ absurd (true≢false (sym locked.0 ∙ none j))
      | inr above ↦ higher j a.one a.other a.first a.second above.1
    ]

    -- where it names one that is out
    pub best_other : (q : ℕ) → IsLocked packages wanted p q → IsOut packages wanted before p q → AreHigherOut packages wanted before p k → IsBest packages wanted before p k
    best_other q there out higher j a = elim (ahead_cases j a) [
      | inl locked ↦ subst (λ i. IsOut packages wanted before p i) (sym (there.only j locked.0)) out
      | inr above ↦ higher j a.one a.other a.first a.second above.1
    ]
