-- Publications that need what the one before them does.
use Rattle.std.proofs.Common.{◌≡◌, ◌<◌, ◌≤◌, ◌+◌, ◌∙◌, ◌⊎◌, inl, inr, ℕ, zero, suc, List, [], ◌∷◌, ◌++◌, drop, get_or, length, refl, sym, subst, ap, arith, Bool, true}
use Rattle.std.specs.Prelude.{◌↔◌, IsTrue, Option, None, Some, map, slice_get}
use Rattle.std.proofs.lemmas.Bool.{cases_eq, cases_lt}
use Rattle.std.proofs.lemmas.Option.{none-some, same_Some}
use Rattle.std.proofs.lemmas.List.{length_push, map_push}
use Rattle.releases.specs.declared.release.Release.{Release}
use Rattle.versions.specs.Words.{Text}
use Rattle.registry.specs.Publications.{any_yanked, publications_of, AreAlike, AreCounted, AreSame, EndsWith, EndWithin, IsAlike}
use Rattle.registry.specs.Registry.{needs_or_none}
use Rattle.registry.specs.declared.place.Place.{Place}
use Rattle.registry.specs.declared.span.Span.{Span}

abbrev Needs : Type 0
Needs = List (Text × Text)

-- ---- lists with one more element

get-front : {X : Type 0} (xs : List X) (x : X) (i : ℕ) → i < length xs → slice_get (xs ++ x ∷ []) i ≡ slice_get xs i
get-front [] x i lt = absurd (omega (arith, lt))
get-front (y ∷ ys) x zero lt = refl
get-front (y ∷ ys) x (suc i) lt = get-front ys x i (omega (arith, lt))

get-last : {X : Type 0} (xs : List X) (x : X) (i : ℕ) → i ≡ length xs → slice_get (xs ++ x ∷ []) i ≡ Some x
get-last [] x zero e = refl
get-last [] x (suc i) e = absurd (omega (arith, e))
get-last (y ∷ ys) x zero e = absurd (omega (arith, e))
get-last (y ∷ ys) x (suc i) e = get-last ys x i (omega (arith, e))

get-past : {X : Type 0} (xs : List X) (x y : X) (i : ℕ) → length xs < i → slice_get (xs ++ x ∷ []) i ≡ Some y → ⊥
get-past [] x y zero lt e = omega (arith, lt)
get-past [] x y (suc i) lt e = none-some y e
get-past (z ∷ zs) x y zero lt e = omega (arith, lt)
get-past (z ∷ zs) x y (suc i) lt e = get-past zs x y i (omega (arith, lt)) e

-- ---- the marks of publications with one more

marked-alike : (marks : List Bool) (needs : List Needs) (mark : Bool) (next : Needs) → AreAlike marks needs → IsTrue mark ↔ EndsWith needs next
    → (k : ℕ) → slice_get (marks ++ mark ∷ []) k ≡ Some true → IsAlike (needs ++ next ∷ []) k
marked-alike marks needs mark next alike ends k marked = elim (cases_lt k (length needs)) [
  | inl lt ↦
      let old = (alike.1 k).0 (sym (get-front marks mark k (omega (arith, alike.0, lt))) ∙ marked) in (
        omega (arith, length_push needs next, lt),
        old.1,
        old.2,
        get-front needs next k lt ∙ old.3 ∙ sym (get-front needs next old.1 (omega (arith, old.2, lt))),
      )
  | inr ge ↦ elim (cases_eq k (length needs)) [
    | inl same ↦
        let yes : IsTrue mark = same_Some mark true (sym (get-last marks mark k (omega (arith, alike.0, same))) ∙ marked) in
        let last = ends.0 yes in (
          omega (arith, length_push needs next, same),
          last.0,
          omega (arith, last.1, same),
          get-last needs next k same ∙ sym last.2 ∙ sym (get-front needs next last.0 (omega (arith, last.1))),
        )
    | inr apart ↦ absurd (get-past marks mark true k (omega (arith, alike.0, ge, apart)) marked)
  ]
]

alike-marked : (marks : List Bool) (needs : List Needs) (mark : Bool) (next : Needs) → AreAlike marks needs → IsTrue mark ↔ EndsWith needs next
    → (k : ℕ) → IsAlike (needs ++ next ∷ []) k → slice_get (marks ++ mark ∷ []) k ≡ Some true
alike-marked marks needs mark next alike ends k at = elim (cases_lt k (length needs)) [
  | inl lt ↦
      get-front marks mark k (omega (arith, alike.0, lt))
      ∙ (alike.1 k).1 (
        lt,
        at.1,
        at.2,
        sym (get-front needs next k lt) ∙ at.3 ∙ get-front needs next at.1 (omega (arith, at.2, lt)),
      )
  | inr ge ↦
      let same : k ≡ length needs = omega (arith, length_push needs next, ge, at.0) in
      let below : at.1 < length needs = omega (arith, at.2, same) in
      let yes : IsTrue mark = ends.1 (
        at.1,
        omega (arith, at.2, same),
        sym (get-front needs next at.1 below) ∙ sym at.3 ∙ get-last needs next k same,
      ) in
      get-last marks mark k (omega (arith, alike.0, same)) ∙ ap Some yes
]

pub alike-next : (marks : List Bool) (needs : List Needs) (mark : Bool) (next : Needs) → AreAlike marks needs → IsTrue mark ↔ EndsWith needs next
    → AreAlike (marks ++ mark ∷ []) (needs ++ next ∷ [])
alike-next marks needs mark next alike ends = (
  length_push marks mark ∙ ap (λ n. n + 1) alike.0 ∙ sym (length_push needs next),
  λ k. (marked-alike marks needs mark next alike ends k, alike-marked marks needs mark next alike ends k),
)

-- ---- needs that are all the same, with one more

same-longer : (needs : List Needs) (next : Needs) → AreSame needs → (needs ≡ []) ⊎ EndsWith needs next → AreSame (needs ++ next ∷ [])
same-longer needs next same ends k j e lt = elim (cases_lt k (length needs)) [
  | inl below ↦ get-front needs next k below ∙ same k j e below ∙ sym (get-front needs next j (omega (arith, e, below)))
  | inr ge ↦
      let last : k ≡ length needs = omega (arith, length_push needs next, ge, lt) in
      elim ends [
        | inl none ↦ absurd (omega (arith, ap length none, last, e))
        | inr own ↦
            let place : own.0 ≡ j = omega (arith, own.1, last, e) in
            get-last needs next k last ∙ sym own.2 ∙ ap (slice_get needs) place ∙ sym (get-front needs next j (omega (arith, last, e)))
      ]
]

same-shorter : (needs : List Needs) (next : Needs) → AreSame (needs ++ next ∷ []) → AreSame needs
same-shorter needs next same k j e lt =
    sym (get-front needs next k lt) ∙ same k j e (omega (arith, length_push needs next, lt)) ∙ get-front needs next j (omega (arith, e, lt))

same-ends : (needs : List Needs) (next : Needs) → AreSame (needs ++ next ∷ []) → (needs ≡ []) ⊎ EndsWith needs next
same-ends [] next same = inl refl
same-ends (n ∷ ns) next same = inr (
  length ns,
  omega arith,
  sym (get-front (n ∷ ns) next (length ns) (omega arith))
      ∙ sym (same (length ns + 1) (length ns) refl (omega (arith, length_push (n ∷ ns) next)))
      ∙ get-last (n ∷ ns) next (length ns + 1) (omega arith),
)

pub same-next : (are mark : Bool) (needs : List Needs) (next : Needs) → IsTrue are ↔ AreSame needs → IsTrue mark ↔ EndsWith needs next
    → (IsTrue are × ((needs ≡ []) ⊎ IsTrue mark)) ↔ AreSame (needs ++ next ∷ [])
same-next are mark needs next same ends = (
  λ yes. same-longer needs next (same.0 yes.0) (elim yes.1 [ inl none ↦ inl none | inr marked ↦ inr (ends.0 marked) ]),
  λ all. (same.1 (same-shorter needs next all), elim (same-ends needs next all) [ inl none ↦ inl none | inr own ↦ inr (ends.1 own) ]),
)

-- ---- how many needs there are

pub counted-next : (spans : List Span) (needs : List Needs) (span : Span) (next : Needs) → AreCounted spans needs → span.needs ≡ length next
    → AreCounted (spans ++ span ∷ []) (needs ++ next ∷ [])
counted-next spans needs span next counted own =
    map_push (λ (s : Span). s.needs) spans span ∙ ap (λ (l : List ℕ). l ++ span.needs ∷ []) counted
    ∙ ap (λ n. map (λ (d : Needs). length d) needs ++ n ∷ []) own ∙ sym (map_push (λ (d : Needs). length d) needs next)

-- ---- what is marked, of publications

-- what one of these needs, nothing where there is none
abbrev pub or_nothing : Option Needs → Needs
or_nothing None = []
or_nothing (Some needs) = needs

pub needs-releases : (releases : List Release) (needs : List Needs) (k : ℕ) → length needs ≡ length releases
    → needs_or_none (slice_get (publications_of releases needs) k) ≡ or_nothing (slice_get needs k)
needs-releases [] [] k e = refl
needs-releases [] (n ∷ ns) k e = absurd (omega (arith, e))
needs-releases (r ∷ rs) [] k e = absurd (omega (arith, e))
needs-releases (r ∷ rs) (n ∷ ns) zero e = refl
needs-releases (r ∷ rs) (n ∷ ns) (suc k) e = needs-releases rs ns k (omega (arith, e))

-- publications with the same needs at two places
pub alike-publications : (releases : List Release) (needs : List Needs) (k j : ℕ) → length needs ≡ length releases → slice_get needs k ≡ slice_get needs j
    → needs_or_none (slice_get (publications_of releases needs) k) ≡ needs_or_none (slice_get (publications_of releases needs) j)
alike-publications releases needs k j e same =
    needs-releases releases needs k e ∙ ap or_nothing same ∙ sym (needs-releases releases needs j e)

there : (needs : List Needs) (k : ℕ) → k < length needs → slice_get needs k ≡ Some (or_nothing (slice_get needs k))
there [] k lt = absurd (omega (arith, lt))
there (n ∷ ns) zero lt = refl
there (n ∷ ns) (suc k) lt = there ns k (omega (arith, lt))

-- and the same needs at two places with publications
pub publications-alike : (releases : List Release) (needs : List Needs) (k j : ℕ) → length needs ≡ length releases → k < length needs → j < length needs
    → needs_or_none (slice_get (publications_of releases needs) k) ≡ needs_or_none (slice_get (publications_of releases needs) j)
    → slice_get needs k ≡ slice_get needs j
publications-alike releases needs k j e k-lt j-lt same =
    there needs k k-lt ∙ ap Some (sym (needs-releases releases needs k e) ∙ same ∙ needs-releases releases needs j e) ∙ sym (there needs j j-lt)

-- how many needs the one at a place has
pub counted-at : (spans : List Span) (needs : List Needs) (k : ℕ) (span : Span) → AreCounted spans needs → slice_get spans k ≡ Some span
    → span.needs ≡ length (or_nothing (slice_get needs k))
counted-at [] needs k span counted at = absurd (none-some span at)
counted-at (s ∷ ss) [] k span counted at = absurd (omega (arith, ap length counted))
counted-at (s ∷ ss) (n ∷ ns) zero span counted at =
    sym (ap (λ (t : Span). t.needs) (same_Some s span at)) ∙ ap (λ (l : List ℕ). get_or l 0 0) counted
counted-at (s ∷ ss) (n ∷ ns) (suc k) span counted at = counted-at ss ns k span (ap (λ (l : List ℕ). drop 1 l) counted) at

pub nothing-past : (needs : List Needs) (k : ℕ) → length needs ≤ k → length (or_nothing (slice_get needs k)) ≡ 0
nothing-past [] k past = refl
nothing-past (n ∷ ns) zero past = absurd (omega (arith, past))
nothing-past (n ∷ ns) (suc k) past = nothing-past ns k (omega (arith, past))

-- ---- what the lists of the publications of a package say of one another

-- how many there are, which are alike, whether one is yanked, and where the places of each end
abbrev pub AreTied : List Needs → List Bool → List Release → List Place → List Span → Bool → Bool → Type 0
AreTied needs marks releases places spans are_alike yanks =
    (length needs ≡ length releases) × AreAlike marks needs × (yanks ≡ any_yanked releases) × (length spans ≡ length needs)
    × EndWithin (length places) spans × AreCounted spans needs × (IsTrue are_alike ↔ AreSame needs)

-- lists that are as they were say the same
pub tied-same : {needs old-needs : List Needs} {marks old-marks : List Bool} {releases old-releases : List Release} {places old-places : List Place} {spans old-spans : List Span} (are_alike yanks : Bool)
    → needs ≡ old-needs → marks ≡ old-marks → releases ≡ old-releases → places ≡ old-places → spans ≡ old-spans
    → AreTied old-needs old-marks old-releases old-places old-spans are_alike yanks → AreTied needs marks releases places spans are_alike yanks
tied-same {needs} {old-needs} {marks} {old-marks} {releases} {old-releases} {places} {old-places} {spans} are_alike yanks needs-is marks-is releases-is places-is spans-is tied =
    subst (λ l. AreTied l marks releases places spans are_alike yanks) (sym needs-is)
    (subst (λ l. AreTied old-needs l releases places spans are_alike yanks) (sym marks-is)
    (subst (λ l. AreTied old-needs old-marks l places spans are_alike yanks) (sym releases-is)
    (subst (λ l. AreTied old-needs old-marks old-releases l spans are_alike yanks) (sym places-is)
    (subst (λ l. AreTied old-needs old-marks old-releases old-places l are_alike yanks) (sym spans-is) tied))))
