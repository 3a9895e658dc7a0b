-- The search for a version among ordinals in rising precedence.
use Rattle.std.proofs.Common.{◌≡◌, ◌∙◌, ◌<◌, ◌≤◌, ◌+◌, ◌-◌, ℕ, List, [], length, get_or, arith, ap, sym, refl, inl, inr, true, true≢false}
use Rattle.std.specs.Ordering.{is_eq, is_lt, ordering_reverse}
use Rattle.std.specs.declared.cmp.Ordering.{Ordering}
use Rattle.std.specs.declared.cmp.Ordering.TheVariants.{Less, Equal, Greater}
use Rattle.std.proofs.lemmas.List.{get_or-map, length-map}
use Rattle.std.proofs.lemmas.Bool.{cases_lt}
use Rattle.versions.specs.Precedence.{EqualPrecedenceIsATie, PrecedenceIsATotalPreorder}
use Rattle.versions.specs.Words.{Text, precedence, same_precedence}
use Rattle.releases.specs.declared.release.Release.{Release}
use Rattle.releases.specs.Releases.{version_at, versions_of}
use Rattle.releases.specs.Rising.{IsGap, IsRising, risen}

-- the version stands between low and high, if it does not stand there itself
pub record IsSearching (versions : List Text) (rising : List ℕ) (version : Text) (low high : ℕ) : Type 0 where
  pub ordered : low ≤ high
  pub within : high ≤ length rising
  pub above : (i : ℕ) → i < low → precedence (risen versions rising i) version ≡ Less
  pub below : (i : ℕ) → high ≤ i → i < length rising → precedence version (risen versions rising i) ≡ Less

pub searching-begin : (versions : List Text) (rising : List ℕ) (version : Text) → IsSearching versions rising version 0 (length rising)
searching-begin versions rising version = record {
  ordered = omega arith;
  within = omega arith;
  above = λ i h. absurd (omega arith);
  below = λ i h g. absurd (omega arith);
}

-- the version at an ordinal is that of the release that is read there
pub version_at-read : (releases : List Release) (k : ℕ) (d : Release) → k < length releases → version_at (versions_of releases) k ≡ (get_or releases k d).version
version_at-read releases k d lt = get_or-map (λ (r : Release). r.version) releases k d [] lt

-- what is above is what is below, the other way round
turned : PrecedenceIsATotalPreorder → (a b : Text) → precedence a b ≡ Greater → precedence b a ≡ Less
turned ordered a b e = ordered.antisymm b a ∙ ap ordering_reverse e

pub searching-up : PrecedenceIsATotalPreorder → (versions : List Text) (rising : List ℕ) (version : Text) (low high middle low' : ℕ) → IsRising versions rising
    → IsSearching versions rising version low high → low ≤ middle → middle < high → low' ≡ middle + 1
    → precedence (risen versions rising middle) version ≡ Less → IsSearching versions rising version low' high
searching-up ordered versions rising version low high middle low' r m le lt is e = record {
  ordered = omega arith;
  within = m.within;
  above = λ i h. elim (cases_lt i middle) [
    | inl under ↦ ordered.trans _ _ _ (r.rises i middle under (omega (arith, m.within))) e
    | inr from ↦ let same : i ≡ middle = omega arith in ap (λ n. precedence (risen versions rising n) version) same ∙ e
  ];
  below = m.below;
}

pub searching-down : PrecedenceIsATotalPreorder → (versions : List Text) (rising : List ℕ) (version : Text) (low high middle : ℕ) → IsRising versions rising
    → IsSearching versions rising version low high → low ≤ middle → middle < high
    → precedence (risen versions rising middle) version ≡ Greater → IsSearching versions rising version low middle
searching-down ordered versions rising version low high middle r m le lt e = record {
  ordered = le;
  within = omega (arith, m.within);
  above = m.above;
  below = λ i h g. elim (cases_lt middle i) [
    | inl over ↦ ordered.trans _ _ _ (turned ordered _ _ e) (r.rises middle i over g)
    | inr from ↦ let same : i ≡ middle = omega arith in ap (λ n. precedence version (risen versions rising n)) same ∙ turned ordered _ _ e
  ];
}

-- a tie with the version that stands at a place
pub tied-place : PrecedenceIsATotalPreorder → EqualPrecedenceIsATie → (a b : Text) → precedence a b ≡ Equal → same_precedence b a ≡ true
tied-place ordered tie a b e = tie b a ∙ ap is_eq (ordered.antisymm b a ∙ ap ordering_reverse e)

-- how the version that was read at a place compares
pub read-compared : (releases : List Release) (rising : List ℕ) (version : Text) (place : ℕ) (r : Release) (o : Ordering) → IsRising (versions_of releases) rising → place < length rising
    → o ≡ precedence (get_or releases (get_or rising place 0) r).version version → precedence (risen (versions_of releases) rising place) version ≡ o
read-compared releases rising version place r o m lt e =
    let small : get_or rising place 0 < length releases = omega (arith, m.within place lt, length-map releases (λ (x : Release). x.version)) in
    ap (λ t. precedence t version) (version_at-read releases (get_or rising place 0) r small) ∙ sym e

-- a version above the last stands after all
pub gap-top : PrecedenceIsATotalPreorder → (versions : List Text) (rising : List ℕ) (version : Text) → IsRising versions rising → 0 < length rising
    → precedence (risen versions rising (length rising - 1)) version ≡ Less → IsGap versions rising version (length rising)
gap-top ordered versions rising version r pos e = record {
  within = omega arith;
  above = λ i h. elim (cases_lt i (length rising - 1)) [
    | inl under ↦ ordered.trans _ _ _ (r.rises i (length rising - 1) under (omega arith)) e
    | inr from ↦ let same : i ≡ length rising - 1 = omega arith in ap (λ n. precedence (risen versions rising n) version) same ∙ e
  ];
  below = λ i h g. absurd (omega arith);
}

pub is_lt-Less : (o : Ordering) → is_lt o ≡ true → Less ≡ o
is_lt-Less Less e = refl
is_lt-Less Equal e = absurd (true≢false (sym e))
is_lt-Less Greater e = absurd (true≢false (sym e))
