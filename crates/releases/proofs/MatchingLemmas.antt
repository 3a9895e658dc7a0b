-- Matching sets: computed afresh, and kept up at a publication.
use Rattle.std.proofs.Common.{◌≡◌, ◌∙◌, ◌<◌, ◌≤◌, ◌+◌, ◌++◌, ◌∷◌, [], ℕ, List, length, get_or, set, Bool, arith, ap, subst, sym, inl, inr, true, false, ◌||◌, ◌&&◌, ◌≢◌, length-append, get_or-set_same, get_or-set_other}
use Rattle.std.specs.Prelude.{nat_eq, nat_lt, min, slice_get, Some}
use Rattle.std.specs.Str.{bytes_eq}
use Rattle.std.proofs.lemmas.Bool.{cases_lt, ne_eqb, lt-ltb, le-ltb}
use Rattle.std.proofs.lemmas.Option.{get_or_from_slice_get, slice_get-get_or, slice_get_past, slice_get_within}
use Rattle.std.proofs.lemmas.List.Folds.{list_any_at}
use Rattle.std.proofs.lemmas.List.{get_or-map, get_or_append_left, get_or_default, length-map, length-set}
use Rattle.std.proofs.Math.Bool.{and-false, and-true, or-false, or-true}
use Rattle.std.proofs.Math.Seq.{get_or-append_seam}
use Rattle.terms.specs.Growing.{Growing}
use Rattle.terms.specs.Sets.{has}
use Rattle.terms.specs.Words.{AreLowBits}
use Rattle.versions.specs.Bounds.{IsBounded, Reach}
use Rattle.versions.specs.Words.{Text, meets}
use Rattle.releases.specs.declared.matching.TheConstants.{KEPT_SETS}
use Rattle.releases.specs.declared.release.Release.{Release}
use Rattle.releases.specs.Kept.{AreBounds, AreMatching, IsKept, IsKeptNext, IsMatching}
use Rattle.releases.specs.Releases.{is_named, meets_at, meets_some, versions_of}
use Rattle.releases.proofs.Standing.{itself}

-- what one version more meets
pub meets_at-push : (versions : List Text) (version need : Text) (k : ℕ) → meets_at (versions ++ version ∷ []) need k ≡ (meets_at versions need k || (nat_eq (length versions) k && meets need version))
meets_at-push versions version need k = elim (cases_lt k (length versions)) [
  | inl older ↦
      ap (meets_some need) (slice_get-get_or (versions ++ version ∷ []) k [] (omega (arith, length-append versions (version ∷ [])))
      ∙ ap (λ (t : Text). Some t) (get_or_append_left versions (version ∷ []) [] k older) ∙ sym (slice_get-get_or versions k [] older))
      ∙ sym (ap (λ b. meets_at versions need k || (b && meets need version)) (ne_eqb (length versions) k (λ e. absurd (omega arith))) ∙ or-false (meets_at versions need k))
  | inr from ↦ elim (cases_lt (length versions) k) [
    | inl over ↦
        ap (meets_some need) (slice_get_past (versions ++ version ∷ []) k (omega (arith, length-append versions (version ∷ []))))
        ∙ sym (ap (λ b. meets_at versions need k || (b && meets need version)) (ne_eqb (length versions) k (λ e. absurd (omega arith)))
        ∙ or-false (meets_at versions need k) ∙ ap (meets_some need) (slice_get_past versions k from))
    | inr to ↦
        let is : k ≡ length versions = omega arith in
        let P : ℕ → Type 0 = λ n. meets_at (versions ++ version ∷ []) need n ≡ (meets_at versions need n || (nat_eq (length versions) n && meets need version)) in
        subst P (sym is) (
        ap (meets_some need) (slice_get-get_or (versions ++ version ∷ []) (length versions) [] (omega (arith, length-append versions (version ∷ [])))
        ∙ ap (λ (t : Text). Some t) (get_or-append_seam versions version [] []))
        ∙ sym (ap (λ b. b || (nat_eq (length versions) (length versions) && meets need version)) (ap (meets_some need) (slice_get_past versions (length versions) (omega arith)))
        ∙ ap (λ b. b && meets need version) (itself (length versions)))
        )
  ]
]

-- the set has the ordinals below n that it is to have
abbrev pub IsMatchingBelow : List Text → Text → ℕ → List ℕ → Type 0
IsMatchingBelow versions need n set = (k : ℕ) → has set k ≡ (nat_lt k n && meets_at versions need k)

-- the version that was read
pub meets_at-read : (releases : List Release) (need : Text) (n : ℕ) (d : Release) → n < length releases → meets_at (versions_of releases) need n ≡ meets need (get_or releases n d).version
meets_at-read releases need n d lt =
    ap (meets_some need) (slice_get-get_or (versions_of releases) n [] (omega (arith, lt, length-map releases (λ (r : Release). r.version))))
    ∙ ap (meets need) (get_or-map (λ (r : Release). r.version) releases n d [] lt)

module _ (versions : List Text) (need : Text) (n : ℕ) (was : List ℕ) (m : IsMatchingBelow versions need n was) where
  -- the version with the next ordinal meets the requirement
  pub matching-in : (now : List ℕ) → meets_at versions need n ≡ true → ((k : ℕ) → has now k ≡ (has was k || nat_eq n k)) → IsMatchingBelow versions need (n + 1) now
  matching-in now met grown k = grown k ∙ elim (cases_lt k n) [
    | inl less ↦
        ap (λ b. has was k || b) (ne_eqb n k (λ e. absurd (omega arith))) ∙ or-false (has was k) ∙ m k
        ∙ ap (λ b. b && meets_at versions need k) (lt-ltb k n less ∙ sym (lt-ltb k (n + 1) (omega arith)))
    | inr from ↦ elim (cases_lt n k) [
      | inl over ↦
          ap (λ b. has was k || b) (ne_eqb n k (λ e. absurd (omega arith))) ∙ or-false (has was k) ∙ m k
          ∙ ap (λ b. b && meets_at versions need k) (le-ltb k n from ∙ sym (le-ltb k (n + 1) (omega arith)))
      | inr to ↦
          let is : n ≡ k = omega arith in
          ap (λ b. has was k || b) (ap (λ x. nat_eq x k) is ∙ itself k) ∙ or-true (has was k)
          ∙ sym (ap (λ b. b && meets_at versions need k) (lt-ltb k (n + 1) (omega arith)) ∙ ap (meets_at versions need) (sym is) ∙ met)
    ]
  ]

  -- the version with the next ordinal does not meet it
  pub matching-out : meets_at versions need n ≡ false → IsMatchingBelow versions need (n + 1) was
  matching-out unmet k = m k ∙ elim (cases_lt k n) [
    | inl less ↦ ap (λ b. b && meets_at versions need k) (lt-ltb k n less ∙ sym (lt-ltb k (n + 1) (omega arith)))
    | inr from ↦ elim (cases_lt n k) [
      | inl over ↦ ap (λ b. b && meets_at versions need k) (le-ltb k n from ∙ sym (le-ltb k (n + 1) (omega arith)))
      | inr to ↦
          let is : n ≡ k = omega arith in
          ap (λ b. b && meets_at versions need k) (le-ltb k n from)
          ∙ sym (ap (λ b. b && meets_at versions need k) (lt-ltb k (n + 1) (omega arith)) ∙ ap (meets_at versions need) (sym is) ∙ unmet)
    ]
  ]

pub matching-end : (versions : List Text) (need : Text) (n : ℕ) (set : List ℕ) → length versions ≤ n → IsMatchingBelow versions need n set → IsMatching versions need set
matching-end versions need n set le m k = m k ∙ elim (cases_lt k n) [
  | inl less ↦ ap (λ b. b && meets_at versions need k) (lt-ltb k n less)
  | inr from ↦ ap (λ b. b && meets_at versions need k) (le-ltb k n from) ∙ sym (ap (meets_some need) (slice_get_past versions k (omega arith)))
]

-- ---- a version is published

-- the matching sets when those below i have the next ordinal where it is to be in
pub record IsKeepingUp (versions : List Text) (version : Text) (needs : List Text) (sets : List Growing) (i : ℕ) : Type 0 where
  pub paired : length sets ≡ min (length needs) KEPT_SETS
  pub done : (j : ℕ) (need : Text) (set : Growing) → j < i → j < length sets → IsMatching (versions ++ version ∷ []) (get_or needs j need) (get_or sets j set).ordinals
  pub left : (j : ℕ) (need : Text) (set : Growing) → i ≤ j → j < length sets → IsMatching versions (get_or needs j need) (get_or sets j set).ordinals
  pub room : (j : ℕ) (set : Growing) → i ≤ j → j < length sets → 0 < (get_or sets j set).room

module _ (versions : List Text) (version : Text) (needs : List Text) (sets : List Growing) (i : ℕ) (m : IsKeepingUp versions version needs sets i) (lt : i < length sets) where
  other : (now : Growing) (sets' : List Growing) → sets' ≡ set sets i now → (j : ℕ) (d : Growing) → j ≢ i → get_or sets' j d ≡ get_or sets j d
  other now sets' e j d ne = ap (λ l. get_or l j d) e ∙ get_or-set_other sets i j now d ne

  same : (now : Growing) (sets' : List Growing) → sets' ≡ set sets i now → (d : Growing) → get_or sets' i d ≡ now
  same now sets' e d = ap (λ l. get_or l i d) e ∙ get_or-set_same sets i now d lt

  many : (now : Growing) (sets' : List Growing) → sets' ≡ set sets i now → length sets' ≡ length sets
  many now sets' e = ap length e ∙ length-set sets i now

  -- the set at i is as it is to be
  stepped : (now : Growing) (sets' : List Growing) → sets' ≡ set sets i now → ((need : Text) → IsMatching (versions ++ version ∷ []) (get_or needs i need) now.ordinals)
      → IsKeepingUp versions version needs sets' (i + 1)
  stepped now sets' e exact = record {
    paired = many now sets' e ∙ m.paired;
    done = λ j need d below within. elim (cases_lt j i) [
      | inl before ↦
          let P : Growing → Type 0 = λ g. IsMatching (versions ++ version ∷ []) (get_or needs j need) g.ordinals in
          subst P (sym (other now sets' e j d (λ (h : j ≡ i). absurd (omega arith)))) (m.done j need d before (omega (arith, within, many now sets' e)))
      | inr from ↦
          let is : i ≡ j = omega arith in
          let P : ℕ → Type 0 = λ n. IsMatching (versions ++ version ∷ []) (get_or needs n need) (get_or sets' n d).ordinals in
          let Q : Growing → Type 0 = λ g. IsMatching (versions ++ version ∷ []) (get_or needs i need) g.ordinals in
          subst P is (subst Q (sym (same now sets' e d)) (exact need))
    ];
    left = λ j need d from within.
        let P : Growing → Type 0 = λ g. IsMatching versions (get_or needs j need) g.ordinals in
        subst P (sym (other now sets' e j d (λ (h : j ≡ i). absurd (omega arith)))) (m.left j need d (omega arith) (omega (arith, within, many now sets' e)));
    room = λ j d from within.
        let P : Growing → Type 0 = λ g. 0 < g.room in
        subst P (sym (other now sets' e j d (λ (h : j ≡ i). absurd (omega arith)))) (m.room j d (omega arith) (omega (arith, within, many now sets' e)));
  }

  pub met-step : (now : Growing) (d : Growing) (r : Text) → meets (get_or needs i r) version ≡ true
      → ((k : ℕ) → has now.ordinals k ≡ (has (get_or sets i d).ordinals k || nat_eq (length versions) k)) → (sets' : List Growing) → sets' ≡ set sets i now
      → IsKeepingUp versions version needs sets' (i + 1)
  met-step now d r met grown sets' e = stepped now sets' e (λ need k.
      let lt' : i < length needs = omega (arith, m.paired) in
      let met' : meets (get_or needs i need) version ≡ true = ap (λ t. meets t version) (get_or_default needs i need r lt') ∙ met in
      grown k
      ∙ ap (λ b. b || nat_eq (length versions) k) (m.left i need d (omega arith) lt k)
      ∙ sym (meets_at-push versions version (get_or needs i need) k ∙ ap (λ b. meets_at versions (get_or needs i need) k || (nat_eq (length versions) k && b)) met'
      ∙ ap (λ b. meets_at versions (get_or needs i need) k || b) (and-true (nat_eq (length versions) k))))

  pub unmet-step : (d : Growing) (r : Text) → meets (get_or needs i r) version ≡ false → (sets' : List Growing) → sets' ≡ set sets i (get_or sets i d)
      → IsKeepingUp versions version needs sets' (i + 1)
  unmet-step d r unmet sets' e = stepped (get_or sets i d) sets' e (λ need k.
      let lt' : i < length needs = omega (arith, m.paired) in
      let unmet' : meets (get_or needs i need) version ≡ false = ap (λ t. meets t version) (get_or_default needs i need r lt') ∙ unmet in
      m.left i need d (omega arith) lt k
      ∙ sym (meets_at-push versions version (get_or needs i need) k ∙ ap (λ b. meets_at versions (get_or needs i need) k || (nat_eq (length versions) k && b)) unmet'
      ∙ ap (λ b. meets_at versions (get_or needs i need) k || b) (and-false (nat_eq (length versions) k)) ∙ or-false (meets_at versions (get_or needs i need) k)))

-- ---- bounds

-- a requirement by its place has the bounds at this place
pub bounds-at : (needs : List Text) (bounds : List Reach) (i : ℕ) (need : Text) (of : Reach) → AreBounds needs bounds → i < length needs
    → need ≡ get_or needs i need → of ≡ get_or bounds i of → IsBounded need of
bounds-at needs bounds i need of all lt at is =
    let P : Text → Type 0 = λ t. IsBounded t (get_or bounds i of) in
    let Q : Reach → Type 0 = λ b. IsBounded need b in
    subst Q (sym is) (subst P (sym at) (all.exact i need of lt))

-- what holds of each pair holds with one pair more
pairs-push : {X Y : Type 0} (P : X → Y → Type 0) (xs : List X) (ys : List Y) (x : X) (y : Y) → length ys ≡ length xs
    → ((i : ℕ) (d : X) (e : Y) → i < length xs → P (get_or xs i d) (get_or ys i e)) → P x y
    → (i : ℕ) (d : X) (e : Y) → i < length (xs ++ x ∷ []) → P (get_or (xs ++ x ∷ []) i d) (get_or (ys ++ y ∷ []) i e)
pairs-push {X = X} {Y = Y} P xs ys x y paired all one i d e lt = elim (cases_lt i (length xs)) [
  | inl older ↦
      let Q : X → Type 0 = λ a. P a (get_or (ys ++ y ∷ []) i e) in
      subst Q (sym (get_or_append_left xs (x ∷ []) d i older))
      (subst (P (get_or xs i d)) (sym (get_or_append_left ys (y ∷ []) e i (omega (arith, paired, older)))) (all i d e older))
  | inr from ↦
      let is : i ≡ length xs = omega (arith, lt, length-append xs (x ∷ [])) in
      let first : get_or (xs ++ x ∷ []) i d ≡ x = ap (λ k. get_or (xs ++ x ∷ []) k d) is ∙ get_or-append_seam xs x [] d in
      let second : get_or (ys ++ y ∷ []) i e ≡ y = ap (λ k. get_or (ys ++ y ∷ []) k e) (is ∙ sym paired) ∙ get_or-append_seam ys y [] e in
      let Q : X → Type 0 = λ a. P a (get_or (ys ++ y ∷ []) i e) in
      subst Q (sym first) (subst (P x) (sym second) one)
]

-- the sets once one requirement more is named
AreMatching-next : (versions needs : List Text) (need : Text) (sets sets' : List Growing) → AreMatching versions needs sets
    → IsKeptNext versions need (length needs) sets sets' → AreMatching versions (needs ++ need ∷ []) sets'
AreMatching-next versions needs need sets sets' m next =
    let one : length (needs ++ need ∷ []) ≡ length needs + 1 = length-append needs (need ∷ []) in
    elim (cases_lt (length needs) KEPT_SETS) [
      | inl early ↦
          let kept = next.first early in
          let whole : length sets ≡ length needs = omega (arith, m.paired, early) in
          let more : length sets' ≡ length sets + 1 = ap length kept.1 ∙ length-append sets (kept.0 ∷ []) in
          record {
            paired = omega (arith, one, more, whole, early);
            exact = λ i n s lt.
                let P : List Growing → Type 0 = λ l. IsMatching versions (get_or (needs ++ need ∷ []) i n) (get_or l i s).ordinals in
                subst P (sym kept.1) (pairs-push (λ (t : Text) (g : Growing). IsMatching versions t g.ordinals) needs sets need kept.0 whole
                (λ j d e lt-ltb. m.exact j d e (omega (arith, lt-ltb, whole))) kept.2 i n s (omega (arith, lt, one, more, whole)));
          }
      | inr late ↦
          let same = next.later late in
          record {
            paired = omega (arith, one, ap length same, m.paired, late);
            exact = λ i n s lt.
                let lt-ltb : i < length sets = omega (arith, lt, ap length same) in
                let P : List Growing → Type 0 = λ l. IsMatching versions (get_or (needs ++ need ∷ []) i n) (get_or l i s).ordinals in
                let Q : Text → Type 0 = λ t. IsMatching versions t (get_or sets i s).ordinals in
                subst P (sym same) (subst Q (sym (get_or_append_left needs (need ∷ []) n i (omega (arith, lt-ltb, m.paired)))) (m.exact i n s lt-ltb));
          }
    ]

-- one requirement more, with its bounds, and with its set where that is kept
IsKept-push : (releases : List Release) (rising : List ℕ) (needs : List Text) (sets sets' : List Growing) (bounds : List Reach) (is_plain : Bool) (need : Text) (of : Reach)
    → IsKept releases rising needs sets bounds is_plain → IsKeptNext (versions_of releases) need (length needs) sets sets' → IsBounded need of
    → IsKept releases rising (needs ++ need ∷ []) sets' (bounds ++ of ∷ []) is_plain
IsKept-push releases rising needs sets sets' bounds is_plain need of kept next bounded = record {
  few = kept.few;
  in_order = kept.in_order;
  matching = AreMatching-next (versions_of releases) needs need sets sets' kept.matching next;
  bounded = record {
    paired = omega (arith, kept.bounded.paired, length-append needs (need ∷ []), length-append bounds (of ∷ []));
    exact = pairs-push IsBounded needs bounds need of kept.bounded.paired kept.bounded.exact bounded;
  };
  plain = kept.plain;
}

pub IsKept-named : (releases : List Release) (rising : List ℕ) (needs needs' : List Text) (sets sets' : List Growing) (bounds bounds' : List Reach) (is_plain : Bool) (need : Text) (of : Reach)
    → IsKept releases rising needs sets bounds is_plain → IsKeptNext (versions_of releases) need (length needs) sets sets' → IsBounded need of
    → needs' ≡ needs ++ need ∷ [] → bounds' ≡ bounds ++ of ∷ [] → IsKept releases rising needs' sets' bounds' is_plain
IsKept-named releases rising needs needs' sets sets' bounds bounds' is_plain need of kept next bounded en eb =
    rw (en, eb) (IsKept-push releases rising needs sets sets' bounds is_plain need of kept next bounded)

-- ---- a look-up

-- the set at the place of a requirement is its matching set
pub placed-matching : (versions needs : List Text) (sets : List Growing) (need : Text) (i : ℕ) (set : Growing) → AreMatching versions needs sets
    → slice_get needs i ≡ Some need → i < length sets → set ≡ get_or sets i set → IsMatching versions need set.ordinals
placed-matching versions needs sets need i set m at within is =
    let named : get_or needs i [] ≡ need = get_or_from_slice_get needs i need [] at in
    let P : Text → Type 0 = λ t. IsMatching versions t (get_or sets i set).ordinals in
    let Q : Growing → Type 0 = λ s. IsMatching versions need s.ordinals in
    subst Q (sym is) (subst P named (m.exact i [] set within))

-- and the bounds there are its bounds
pub placed-bounds : (needs : List Text) (bounds : List Reach) (need : Text) (i : ℕ) (of : Reach) → AreBounds needs bounds
    → slice_get needs i ≡ Some need → of ≡ get_or bounds i of → IsBounded need of
placed-bounds needs bounds need i of all at is =
    let named : get_or needs i [] ≡ need = get_or_from_slice_get needs i need [] at in
    let P : Text → Type 0 = λ t. IsBounded t (get_or bounds i of) in
    let Q : Reach → Type 0 = λ b. IsBounded need b in
    subst Q (sym is) (subst P named (all.exact i [] of (slice_get_within needs i need at)))

-- a requirement that stands at a place is named
pub placed-named : (needs : List Text) (need : Text) (i : ℕ) → slice_get needs i ≡ Some need → bytes_eq need need ≡ true → true ≡ is_named needs need
placed-named needs need i at is =
    sym (list_any_at (bytes_eq need) needs i [] (slice_get_within needs i need at) (ap (bytes_eq need) (get_or_from_slice_get needs i need [] at) ∙ is))

-- the requirement whose set stands at a place, and those of the ordinals below 64 that meet it
pub placed-low_bits : (versions needs : List Text) (sets : List Growing) (i : ℕ) (set : Growing) (bits : ℕ) → AreMatching versions needs sets
    → i < length sets → set ≡ get_or sets i set → AreLowBits bits (has set.ordinals)
    → (need : Text) × (slice_get needs i ≡ Some need) × AreLowBits bits (meets_at versions need)
placed-low_bits versions needs sets i set bits m within is low =
    let at = slice_get-get_or needs i [] (omega (arith, within, m.paired)) in
    let exact = placed-matching versions needs sets (get_or needs i []) i set m at within is in
    (get_or needs i [], at, λ k lt. low k lt ∙ exact k)

-- the requirement whose set stands at a place
pub placed-set : (versions needs : List Text) (sets : List Growing) (i : ℕ) (set : Growing) → AreMatching versions needs sets → i < length sets → set ≡ get_or sets i set
    → (need : Text) × (slice_get needs i ≡ Some need) × IsMatching versions need set.ordinals
placed-set versions needs sets i set m within is =
    let at = slice_get-get_or needs i [] (omega (arith, within, m.paired)) in
    (get_or needs i [], at, placed-matching versions needs sets (get_or needs i []) i set m at within is)
