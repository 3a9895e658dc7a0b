-- Where an ordinal stands among the rising ones, and what follows for finding and for the highest.
use Rattle.std.proofs.Common.{◌≡◌, ◌∙◌, ◌<◌, ◌≤◌, ◌||◌, ◌∷◌, [], ℕ, suc, List, Bool, length, get_or, arith, ap, subst, sym, refl, inl, inr, true, false, true≢false, eqb-true}
use Rattle.std.specs.Prelude.{nat_eq, Option, Some, None, IfSome, IfNone, cond, find, reverse, zero}
use Rattle.std.specs.Option.{option_or}
use Rattle.std.specs.List.{list_any}
use Rattle.std.specs.Ordering.{ordering_reverse}
use Rattle.std.specs.declared.cmp.Ordering.TheVariants.{Less, Equal, Greater}
use Rattle.std.proofs.lemmas.Bool.{cases_lt, cases_Bool}
use Rattle.std.proofs.lemmas.List.{length-map}
use Rattle.std.proofs.lemmas.List.Folds.{find-append}
use mathlib.Core.List.{reverse-cons}
use Rattle.std.specs.Cmp.{Equal-is, tied_itself}
use Rattle.versions.specs.Precedence.{EqualPrecedenceIsATie, EqualPrecedenceIsAnEquivalence, PrecedenceIsATotalPreorder}
use Rattle.versions.specs.Words.{Text, precedence, same_precedence}
use Rattle.releases.specs.declared.release.Release.{Release}
use Rattle.releases.specs.Releases.{IsFound, has_version, version_at, versions_of}
use Rattle.releases.specs.Rising.{IsGap, IsHighest, IsRising, risen}

-- an element that passes the test, by its place
pub witness : {X : Type 0} (p : X → Bool) (d : X) (xs : List X) → list_any p xs ≡ true → (i : ℕ) × (i < length xs) × (p (get_or xs i d) ≡ true)
witness p d [] e = absurd (true≢false (sym e))
witness p d (x ∷ xs) e = elim (cases_Bool (p x)) [
  | inl passes ↦ (0, omega arith, passes)
  | inr fails ↦ let w = witness p d xs (sym (ap (λ b. b || list_any p xs) fails) ∙ e) in (suc w.0, omega (arith, w.1), w.2)
]

pub itself : (k : ℕ) → nat_eq k k ≡ true
itself k = grind arith

-- the place of an ordinal among the rising ones
pub place-of : (versions : List Text) (rising : List ℕ) (k : ℕ) → IsRising versions rising → k < length versions → (i : ℕ) × (i < length rising) × (get_or rising i 0 ≡ k)
place-of versions rising k r lt =
    let w = witness (λ x. nat_eq x k) 0 rising (r.every k lt) in
    (w.0, w.1, eqb-true (get_or rising w.0 0) k w.2)

Less≢Equal : Less ≡ Equal → ⊥
Less≢Equal e = cc e

Less≢Greater : Less ≡ Greater → ⊥
Less≢Greater e = cc e

turned : PrecedenceIsATotalPreorder → (a b : Text) → precedence a b ≡ Less → precedence b a ≡ Greater
turned ordered a b e = ordered.antisymm b a ∙ ap ordering_reverse e

-- equal precedence is a tie
tied : EqualPrecedenceIsATie → (a b : Text) → same_precedence a b ≡ true → precedence a b ≡ Equal
tied tie a b e = (Equal-is (precedence a b)).0 (sym (tie a b) ∙ e)

-- versions that share a precedence with one have it with one another
pub shared : EqualPrecedenceIsAnEquivalence → (a b c : Text) → same_precedence b a ≡ true → same_precedence b c ≡ true → same_precedence a c ≡ true
shared equal a b c p q = equal.congr a b c (equal.symm a b ∙ p) ∙ q

-- of two places with versions of equal precedence neither is before the other
not-before : EqualPrecedenceIsATie → (versions : List Text) (rising : List ℕ) (i j : ℕ) → IsRising versions rising → j < length rising → same_precedence (risen versions rising i) (risen versions rising j) ≡ true → i < j → ⊥
not-before tie versions rising i j r lt same before = Less≢Equal (sym (r.rises i j before lt) ∙ tied tie _ _ same)

-- versions of equal precedence have one ordinal
pub distinct : EqualPrecedenceIsAnEquivalence → EqualPrecedenceIsATie → (versions : List Text) (rising : List ℕ) (j k : ℕ) → IsRising versions rising → j < length versions → k < length versions
    → same_precedence (version_at versions j) (version_at versions k) ≡ true → j ≡ k
distinct equal tie versions rising j k r lt lt' same_one =
    let p = place-of versions rising j r lt in
    let q = place-of versions rising k r lt' in
    let at : same_precedence (risen versions rising p.0) (risen versions rising q.0) ≡ true =
    ap (λ n. same_precedence (version_at versions n) (risen versions rising q.0)) p.2 ∙ ap (λ n. same_precedence (version_at versions j) (version_at versions n)) q.2 ∙ same_one in
    elim (cases_lt p.0 q.0) [
      | inl before ↦ absurd (not-before tie versions rising p.0 q.0 r q.1 at before)
      | inr from ↦ elim (cases_lt q.0 p.0) [
        | inl after ↦ absurd (not-before tie versions rising q.0 p.0 r p.1 (equal.symm _ _ ∙ at) after)
        | inr to ↦ let same : p.0 ≡ q.0 = omega arith in sym p.2 ∙ ap (λ n. get_or rising n 0) same ∙ q.2
      ]
    ]

-- the one that was found is the only one
pub found-only : EqualPrecedenceIsAnEquivalence → EqualPrecedenceIsATie → (versions : List Text) (rising : List ℕ) (version : Text) (place : ℕ) → IsRising versions rising → place < length rising
    → same_precedence version (risen versions rising place) ≡ true → (j : ℕ) → IsFound versions version j → j ≡ get_or rising place 0
found-only equal tie versions rising version place r lt here j found =
    distinct equal tie versions rising j (get_or rising place 0) r found.0 (r.within place lt) (shared equal _ version _ found.1 here)

-- nothing of equal precedence stands beside a gap
pub gap-none : EqualPrecedenceIsAnEquivalence → EqualPrecedenceIsATie → (versions : List Text) (rising : List ℕ) (version : Text) (place : ℕ) → IsRising versions rising → IsGap versions rising version place → has_version versions version ≡ false
gap-none equal tie versions rising version place r gap = elim (cases_Bool (has_version versions version)) [
  | inr fails ↦ fails
  | inl passes ↦
      let w = witness (same_precedence version) [] versions passes in
      let p = place-of versions rising w.0 r w.1 in
      let same : same_precedence version (risen versions rising p.0) ≡ true = ap (λ n. same_precedence version (version_at versions n)) p.2 ∙ w.2 in
      elim (cases_lt p.0 place) [
        | inl before ↦ absurd (Less≢Equal (sym (gap.above p.0 before) ∙ tied tie _ _ (equal.symm _ _ ∙ same)))
        | inr from ↦ absurd (Less≢Equal (sym (gap.below p.0 from p.1) ∙ tied tie _ _ same))
      ]
]

module _ (gives : ℕ → Bool → Type 0) (versions : List Text) (rising : List ℕ) (r : IsRising versions rising) where
  -- the last of the rising ordinals that passes has the highest precedence
  pub last-highest : PrecedenceIsATotalPreorder → (k : ℕ) → ((i : ℕ) × (i < length rising) × (get_or rising i 0 ≡ k) × gives k true × ((j : ℕ) → i < j → j < length rising → gives (get_or rising j 0) false))
      → IsHighest gives versions k
  last-highest ordered k last = record {
    published = let w = r.within last.0 last.1 in omega (arith, w, last.2);
    passes = last.3;
    fails = λ j lt above.
        let p = place-of versions rising j r lt in
        elim (cases_lt last.0 p.0) [
          | inl after ↦ subst (λ n. gives n false) p.2 (last.4 p.0 after p.1)
          | inr to ↦ elim (cases_lt p.0 last.0) [
            | inl before ↦
                let under : precedence (version_at versions j) (version_at versions k) ≡ Less =
                ap (λ n. precedence (version_at versions n) (version_at versions k)) (sym p.2) ∙ ap (λ n. precedence (risen versions rising p.0) (version_at versions n)) (sym last.2)
                ∙ r.rises p.0 last.0 before last.1 in
                absurd (Less≢Greater (sym above ∙ turned ordered _ _ under))
            | inr from ↦
                let same : p.0 ≡ last.0 = omega arith in
                let is : j ≡ k = sym p.2 ∙ ap (λ n. get_or rising n 0) same ∙ last.2 in
                absurd (Less≢Equal (sym above ∙ ap (λ n. precedence (version_at versions k) (version_at versions n)) is ∙ tied_itself ordered (version_at versions k)))
          ]
        ];
  }

  pub none-passes : ((j : ℕ) → j < length rising → gives (get_or rising j 0) false) → (k : ℕ) → k < length versions → gives k false
  none-passes h k lt = let p = place-of versions rising k r lt in subst (λ n. gives n false) p.2 (h p.0 p.1)

  pub highest-some : PrecedenceIsATotalPreorder → (result : Option ℕ) → IfSome result (λ k. (i : ℕ) × (i < length rising) × (get_or rising i 0 ≡ k) × gives k true × ((j : ℕ) → i < j → j < length rising → gives (get_or rising j 0) false))
      → IfSome result (IsHighest gives versions)
  highest-some ordered None h = tt
  highest-some ordered (Some k) h = last-highest ordered k h

  pub highest-none : (result : Option ℕ) → IfNone result ((j : ℕ) → j < length rising → gives (get_or rising j 0) false) → IfNone result ((k : ℕ) → k < length versions → gives k false)
  highest-none None h = none-passes h
  highest-none (Some k) h = tt

-- ---- a walk from the end

-- the last element that passes, with its place, or all fail
abbrev pub Walked : (ℕ → Bool) → List ℕ → Option ℕ → Type 0
Walked test xs None = (j : ℕ) → j < length xs → test (get_or xs j 0) ≡ false
Walked test xs (Some k) = (i : ℕ) × (i < length xs) × (get_or xs i 0 ≡ k) × (test k ≡ true) × ((j : ℕ) → i < j → j < length xs → test (get_or xs j 0) ≡ false)

-- what holds of the later elements, by their places
later : (test : ℕ → Bool) (x : ℕ) (rest : List ℕ) (i : ℕ) → ((j : ℕ) → i ≤ j → j < length rest → test (get_or rest j 0) ≡ false)
    → (j : ℕ) → i < j → j < length (x ∷ rest) → test (get_or (x ∷ rest) j 0) ≡ false
later test x rest i h zero before lt = absurd (omega arith)
later test x rest i h (suc j) before lt = h j (omega arith) (omega arith)

all-fail : (test : ℕ → Bool) (x : ℕ) (rest : List ℕ) → test x ≡ false → Walked test rest None → Walked test (x ∷ rest) None
all-fail test x rest e fail zero lt = e
all-fail test x rest e fail (suc j) lt = fail j (omega arith)

-- where all later ones fail, the first is looked at
walked-first : (test : ℕ → Bool) (x : ℕ) (rest : List ℕ) → Walked test rest None → (b : Bool) → test x ≡ b → Walked test (x ∷ rest) (cond b (Some x) None)
walked-first test x rest fail true e = (0, omega arith, refl, e, later test x rest 0 (λ j le lt. fail j lt))
walked-first test x rest fail false e = all-fail test x rest e fail

walked-more : (test : ℕ → Bool) (x : ℕ) (rest : List ℕ) (found : Option ℕ) → Walked test rest found → Walked test (x ∷ rest) (option_or found (find test (x ∷ [])))
walked-more test x rest None fail = walked-first test x rest fail (test x) refl
walked-more test x rest (Some k) w = (suc w.0, omega (arith, w.1), w.2, w.3, later test x rest (suc w.0) (λ j le lt. w.4 j (omega arith) lt))

pub walked : (test : ℕ → Bool) (xs : List ℕ) → Walked test xs (find test (reverse xs))
walked test [] = λ j lt. absurd (omega arith)
walked test (x ∷ rest) = rw (reverse-cons, find-append) (walked-more test x rest (find test (reverse rest)) (walked test rest))

module _ (test : ℕ → Bool) (versions : List Text) (rising : List ℕ) (r : IsRising versions rising) where
  pub walked-some : PrecedenceIsATotalPreorder → (result : Option ℕ) → Walked test rising result → IfSome result (IsHighest (λ k b. test k ≡ b) versions)
  walked-some ordered None w = tt
  walked-some ordered (Some k) w = last-highest (λ k b. test k ≡ b) versions rising r ordered k w

  pub walked-none : (result : Option ℕ) → Walked test rising result → IfNone result ((k : ℕ) → k < length versions → test k ≡ false)
  walked-none None w = none-passes (λ k b. test k ≡ b) versions rising r w
  walked-none (Some k) w = tt

-- the same of each ordinal of a release
pub each-ordinal : (releases : List Release) (fails : ℕ → Type 0) (result : Option ℕ) → IfNone result ((k : ℕ) → k < length (versions_of releases) → fails k)
    → IfNone result ((k : ℕ) → k < length releases → fails k)
each-ordinal releases fails None h = λ k lt. h k (omega (arith, length-map releases (λ (r : Release). r.version)))
each-ordinal releases fails (Some k) h = tt
