-- A release that is yanked, or whose yank is taken back.
use Rattle.std.proofs.Common.{◌≡◌, ◌∙◌, ℕ, zero, suc, List, [], ◌∷◌, Bool, length, get_or, set, arith, ap, sym, refl, inl, inr, false, ◌&&◌, ◌||◌}
use Rattle.std.specs.Prelude.{Some, slice_get, if◌then◌else◌}
use Rattle.std.proofs.Math.Bool.{or-false}
use Rattle.std.proofs.lemmas.Bool.{cases_Bool}
use Rattle.versions.specs.Words.{Text, same_precedence}
use Rattle.versions.specs.Bounds.{Reach}
use Rattle.releases.specs.declared.release.Release.{Release}
use Rattle.releases.specs.Releases.{IsFound, is_yanked, marked, stamped, versions_of}
use Rattle.releases.specs.Kept.{IsKept}
use Rattle.releases.specs.Rising.{IsRising}
use Rattle.releases.proofs.Standing.{distinct, shared}
use Rattle.versions.specs.Precedence.{EqualPrecedenceIsATie, EqualPrecedenceIsAnEquivalence}
use Rattle.terms.specs.Growing.{Growing}

-- what a write of the mark leaves
pub marked-set : (releases : List Release) (k : ℕ) (d : Release) (yanked : Bool)
    → set releases k (record { version = (get_or releases k d).version; yanked = yanked }) ≡ marked releases k yanked
marked-set [] k d yanked = refl
marked-set (release ∷ rest) zero d yanked = refl
marked-set (release ∷ rest) (suc k) d yanked = ap (λ l. release ∷ l) (marked-set rest k d yanked)

pub versions_of-marked : (releases : List Release) (k : ℕ) (yanked : Bool) → versions_of (marked releases k yanked) ≡ versions_of releases
versions_of-marked [] k yanked = refl
versions_of-marked (release ∷ rest) zero yanked = refl
versions_of-marked (release ∷ rest) (suc k) yanked = ap (λ l. release.version ∷ l) (versions_of-marked rest k yanked)

pub length-marked : (releases : List Release) (k : ℕ) (yanked : Bool) → length (marked releases k yanked) ≡ length releases
length-marked [] k yanked = refl
length-marked (release ∷ rest) zero yanked = refl
length-marked (release ∷ rest) (suc k) yanked = ap suc (length-marked rest k yanked)

-- a mark changes nothing that is kept beside the releases
pub IsKept-marked : (releases : List Release) (rising : List ℕ) (needs : List Text) (sets : List Growing) (bounds : List Reach) (is_plain : Bool) (k : ℕ) (yanked : Bool)
    → IsKept releases rising needs sets bounds is_plain → IsKept (marked releases k yanked) rising needs sets bounds is_plain
IsKept-marked releases rising needs sets bounds is_plain k yanked m = record {
  few = omega (arith, m.few, length-marked releases k yanked);
  in_order = rw (versions_of-marked releases k yanked) m.in_order;
  matching = rw (versions_of-marked releases k yanked) m.matching;
  bounded = m.bounded;
  plain = rw (versions_of-marked releases k yanked) m.plain;
}

-- ---- the release of equal precedence

stamped-none : (releases : List Release) (version : Text) (yanked : Bool) → ((j : ℕ) → IsFound (versions_of releases) version j → ⊥) → stamped version yanked releases ≡ releases
stamped-none [] version yanked none = refl
stamped-none (release ∷ rest) version yanked none = elim (cases_Bool (same_precedence version release.version)) [
  | inl tie ↦ absurd (none 0 (omega arith, tie))
  | inr apart ↦
      ap (λ b. (if b then record { version = release.version; yanked = yanked } else release) ∷ stamped version yanked rest) apart
      ∙ ap (λ l. release ∷ l) (stamped-none rest version yanked (λ j found. none (suc j) (omega (arith, found.0), found.1)))
]

-- marking the only release of equal precedence is stamping each of equal precedence
marked-stamped : (releases : List Release) (version : Text) (k : ℕ) (yanked : Bool) → IsFound (versions_of releases) version k
    → ((j : ℕ) → IsFound (versions_of releases) version j → j ≡ k) → marked releases k yanked ≡ stamped version yanked releases
marked-stamped [] version k yanked found only = refl
marked-stamped (release ∷ rest) version zero yanked found only =
    sym (ap (λ b. (if b then record { version = release.version; yanked = yanked } else release) ∷ stamped version yanked rest) found.1
    ∙ ap (λ l. record { version = release.version; yanked = yanked } ∷ l) (stamped-none rest version yanked (λ j at.
    let e : suc j ≡ 0 = only (suc j) (omega (arith, at.0), at.1) in absurd (omega (arith, e)))))
marked-stamped (release ∷ rest) version (suc k) yanked found only = elim (cases_Bool (same_precedence version release.version)) [
  | inl tie ↦ let e : 0 ≡ suc k = only 0 (omega arith, tie) in absurd (omega (arith, e))
  | inr apart ↦
      ap (λ l. release ∷ l) (marked-stamped rest version k yanked (omega (arith, found.0), found.1) (λ j at.
      let e : suc j ≡ suc k = only (suc j) (omega (arith, at.0), at.1) in omega (arith, e)))
      ∙ sym (ap (λ b. (if b then record { version = release.version; yanked = yanked } else release) ∷ stamped version yanked rest) apart)
]

pub marked-found : EqualPrecedenceIsAnEquivalence → EqualPrecedenceIsATie → (releases : List Release) (rising : List ℕ) (version : Text) (k : ℕ) (yanked : Bool) → IsRising (versions_of releases) rising → IsFound (versions_of releases) version k
    → marked releases k yanked ≡ stamped version yanked releases
marked-found equal tie releases rising version k yanked r found = marked-stamped releases version k yanked found (λ j at.
    distinct equal tie (versions_of releases) rising j k r at.0 found.0 (shared equal _ version _ at.1 found.1))

-- ---- whether it is yanked

none-yanked : (releases : List Release) (version : Text) → ((j : ℕ) → IsFound (versions_of releases) version j → ⊥) → is_yanked releases version ≡ false
none-yanked [] version none = refl
none-yanked (release ∷ rest) version none = elim (cases_Bool (same_precedence version release.version)) [
  | inl tie ↦ absurd (none 0 (omega arith, tie))
  | inr apart ↦
      ap (λ b. (b && release.yanked) || is_yanked rest version) apart ∙ none-yanked rest version (λ j found. none (suc j) (omega (arith, found.0), found.1))
]

-- of the only release of equal precedence
only-yanked : (releases : List Release) (version : Text) (k : ℕ) (release : Release) → slice_get releases k ≡ Some release → IsFound (versions_of releases) version k
    → ((j : ℕ) → IsFound (versions_of releases) version j → j ≡ k) → release.yanked ≡ is_yanked releases version
only-yanked [] version k release at found only = absurd (omega (arith, found.0))
only-yanked (first ∷ rest) version zero release at found only =
    let none : is_yanked rest version ≡ false = none-yanked rest version (λ j others.
    let e : suc j ≡ 0 = only (suc j) (omega (arith, others.0), others.1) in absurd (omega (arith, e))) in
    let same : first ≡ release = cc at in
    ap (λ (r : Release). r.yanked) (sym same)
    ∙ sym (ap (λ b. (b && first.yanked) || is_yanked rest version) found.1 ∙ ap (λ b. first.yanked || b) none ∙ or-false first.yanked)
only-yanked (first ∷ rest) version (suc k) release at found only = elim (cases_Bool (same_precedence version first.version)) [
  | inl tie ↦ let e : 0 ≡ suc k = only 0 (omega arith, tie) in absurd (omega (arith, e))
  | inr apart ↦
      only-yanked rest version k release at (omega (arith, found.0), found.1) (λ j others.
      let e : suc j ≡ suc k = only (suc j) (omega (arith, others.0), others.1) in omega (arith, e))
      ∙ sym (ap (λ b. (b && first.yanked) || is_yanked rest version) apart)
]

pub found-yanked : EqualPrecedenceIsAnEquivalence → EqualPrecedenceIsATie → (releases : List Release) (rising : List ℕ) (version : Text) (k : ℕ) (release : Release) → IsRising (versions_of releases) rising
    → IsFound (versions_of releases) version k → slice_get releases k ≡ Some release → release.yanked ≡ is_yanked releases version
found-yanked equal tie releases rising version k release r found at = only-yanked releases version k release at found (λ j others.
    distinct equal tie (versions_of releases) rising j k r others.0 found.0 (shared equal _ version _ others.1 found.1))
