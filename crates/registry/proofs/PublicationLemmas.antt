-- The publications of a package, by its releases and what each depends on.
use Rattle.std.proofs.Common.{◌≡◌, ◌<◌, ◌∙◌, inl, inr, ℕ, zero, suc, List, [], ◌∷◌, ◌++◌, length, refl, sym, ap, arith, Bool, true, false, ◌||◌, get_or}
use Rattle.std.specs.Prelude.{Option, Some, None, IfNone, IfOk, IfSome, Result, Ok, Err, slice_get, if◌then◌else◌}
use Rattle.std.proofs.lemmas.Bool.{cases_Bool, or_parts}
use Rattle.std.proofs.lemmas.List.{length-map}
use Rattle.versions.specs.Words.{Text, precedence, same_precedence}
use Rattle.std.specs.declared.alloc.AllocError.{AllocError}
use Rattle.terms.specs.Sets.{has}
use Rattle.terms.specs.Words.{AreLowBits}
use Rattle.releases.specs.declared.matching.Matching.{Matching}
use Rattle.releases.specs.declared.release.Release.{Release}
use Rattle.releases.specs.Matching.{ordinals_of}
use Rattle.releases.specs.Releases as released
use Rattle.releases.specs.Releases.{IsFound, marked, version_at}
use Rattle.releases.specs.Rising as rising
use Rattle.registry.specs.Highest.{IsHighest}
use Rattle.registry.specs.Publications.{publications_of}
use Rattle.registry.specs.Registry.{Publication, has_version, needs_or_none, publication_equals, publication_meets}
use Rattle.registry.specs.Step.{set_yanked, yank_of}

abbrev Needs : Type 0
Needs = List (Text × Text)

-- a release, with what it depends on
abbrev publication : Release → Needs → Publication
publication r n = record { version = r.version; needs = n; yanked = r.yanked }

pub length-publications_of : (releases : List Release) (needs : List Needs) → length needs ≡ length releases → length (publications_of releases needs) ≡ length releases
length-publications_of [] needs e = refl
length-publications_of (r ∷ rs) [] e = absurd (omega (arith, e))
length-publications_of (r ∷ rs) (n ∷ ns) e =
    let less : length ns ≡ length rs = omega (arith, e) in
    ap suc (length-publications_of rs ns less)

pub publications_of-push : (releases : List Release) (needs : List Needs) (release : Release) (own : Needs) → length needs ≡ length releases
    → publications_of (releases ++ release ∷ []) (needs ++ own ∷ [])
    ≡ publications_of releases needs ++ (record { version = release.version; needs = own; yanked = release.yanked }) ∷ []
publications_of-push [] [] release own e = refl
publications_of-push [] (n ∷ ns) release own e = absurd (omega (arith, e))
publications_of-push (r ∷ rs) [] release own e = absurd (omega (arith, e))
publications_of-push (r ∷ rs) (n ∷ ns) release own e =
    let less : length ns ≡ length rs = omega (arith, e) in
    let first : Publication = record { version = r.version; needs = n; yanked = r.yanked } in
    ap (λ l. first ∷ l) (publications_of-push rs ns release own less)

-- the publication at a place is the release there, with what it depends on
pub publication-placed : (releases : List Release) (needs : List Needs) (k : ℕ) (r : Release) (n : Needs) → length needs ≡ length releases → k < length releases
    → r ≡ get_or releases k r → n ≡ get_or needs k n
    → slice_get (publications_of releases needs) k ≡ Some (record { version = r.version; needs = n; yanked = r.yanked })
publication-placed [] needs k r n e lt at own = absurd (omega (arith, lt))
publication-placed (x ∷ rs) [] k r n e lt at own = absurd (omega (arith, e))
publication-placed (x ∷ rs) (y ∷ ns) zero r n e lt at own =
    ap (λ (q : Release). Some (publication q y)) (sym at) ∙ ap (λ (m : Needs). Some (publication r m)) (sym own)
publication-placed (x ∷ rs) (y ∷ ns) (suc k) r n e lt at own = publication-placed rs ns k r n (omega (arith, e)) (omega (arith, lt)) at own

-- what the publication at a place depends on
pub needs-placed : (releases : List Release) (needs : List Needs) (k : ℕ) (n : Needs) → length needs ≡ length releases → k < length needs → n ≡ get_or needs k n
    → needs_or_none (slice_get (publications_of releases needs) k) ≡ n
needs-placed [] [] k n e lt own = absurd (omega (arith, lt))
needs-placed [] (y ∷ ns) k n e lt own = absurd (omega (arith, e))
needs-placed (r ∷ rs) [] k n e lt own = absurd (omega (arith, lt))
needs-placed (r ∷ rs) (y ∷ ns) zero n e lt own = sym own
needs-placed (r ∷ rs) (y ∷ ns) (suc k) n e lt own = needs-placed rs ns k n (omega (arith, e)) (omega (arith, lt)) own

-- ---- by equal precedence

pub has_version-releases : (releases : List Release) (needs : List Needs) (version : Text) → length needs ≡ length releases
    → has_version (publications_of releases needs) version ≡ released.has_version (released.versions_of releases) version
has_version-releases [] needs version e = refl
has_version-releases (r ∷ rs) [] version e = absurd (omega (arith, e))
has_version-releases (r ∷ rs) (n ∷ ns) version e =
    let less : length ns ≡ length rs = omega (arith, e) in
    ap (λ b. same_precedence version r.version || b) (has_version-releases rs ns version less)

pub yank_of-none : (releases : List Release) (needs : List Needs) (version : Text) → released.has_version (released.versions_of releases) version ≡ false
    → yank_of (publications_of releases needs) version ≡ None
yank_of-none [] needs version none = refl
yank_of-none (r ∷ rs) [] version none = refl
yank_of-none (r ∷ rs) (n ∷ ns) version none =
    let parts = or_parts (same_precedence version r.version) (released.has_version (released.versions_of rs) version) none in
    ap (λ b. if b then Some r.yanked else yank_of (publications_of rs ns) version) parts.0 ∙ yank_of-none rs ns version parts.1

pub set_yanked-none : (releases : List Release) (needs : List Needs) (version : Text) (yanked : Bool) → released.has_version (released.versions_of releases) version ≡ false
    → set_yanked version yanked (publications_of releases needs) ≡ publications_of releases needs
set_yanked-none [] needs version yanked none = refl
set_yanked-none (r ∷ rs) [] version yanked none = refl
set_yanked-none (r ∷ rs) (n ∷ ns) version yanked none =
    let parts = or_parts (same_precedence version r.version) (released.has_version (released.versions_of rs) version) none in
    let first : Publication = record { version = r.version; needs = n; yanked = r.yanked } in
    let changed : Publication = record { version = r.version; needs = n; yanked = yanked } in
    ap (λ b. if b then changed ∷ publications_of rs ns else first ∷ set_yanked version yanked (publications_of rs ns)) parts.0
    ∙ ap (λ l. first ∷ l) (set_yanked-none rs ns version yanked parts.1)

-- this release is the only one of equal precedence
pub record IsOnly (releases : List Release) (version : Text) (k : ℕ) : Type 0 where
  pub found : IsFound (released.versions_of releases) version k
  pub only : (j : ℕ) → IsFound (released.versions_of releases) version j → j ≡ k

-- behind a release that is not of equal precedence
only-later : (r : Release) (rs : List Release) (version : Text) (k : ℕ) → IsOnly (r ∷ rs) version (suc k) → IsOnly rs version k
only-later r rs version k h = record {
  found = (omega (arith, h.found.0), h.found.1);
  only = λ j at. let e : suc j ≡ suc k = h.only (suc j) (omega (arith, at.0), at.1) in omega (arith, e);
}

-- before the only one no release is of equal precedence
only-apart : (r : Release) (rs : List Release) (version : Text) (k : ℕ) → IsOnly (r ∷ rs) version (suc k) → same_precedence version r.version ≡ false
only-apart r rs version k h = elim (cases_Bool (same_precedence version r.version)) [
  | inr apart ↦ apart
  | inl tie ↦ let e : 0 ≡ suc k = h.only 0 (omega arith, tie) in absurd (omega (arith, e))
]

pub yank_of-found : (releases : List Release) (needs : List Needs) (version : Text) (k : ℕ) (d : Release) → length needs ≡ length releases → IsOnly releases version k
    → yank_of (publications_of releases needs) version ≡ Some (get_or releases k d).yanked
yank_of-found [] needs version k d e h = absurd (omega (arith, h.found.0))
yank_of-found (r ∷ rs) [] version k d e h = absurd (omega (arith, e))
yank_of-found (r ∷ rs) (n ∷ ns) version zero d e h = ap (λ b. if b then Some r.yanked else yank_of (publications_of rs ns) version) h.found.1
yank_of-found (r ∷ rs) (n ∷ ns) version (suc k) d e h =
    let less : length ns ≡ length rs = omega (arith, e) in
    ap (λ b. if b then Some r.yanked else yank_of (publications_of rs ns) version) (only-apart r rs version k h)
    ∙ yank_of-found rs ns version k d less (only-later r rs version k h)

pub set_yanked-found : (releases : List Release) (needs : List Needs) (version : Text) (k : ℕ) (yanked : Bool) → length needs ≡ length releases → IsOnly releases version k
    → publications_of (marked releases k yanked) needs ≡ set_yanked version yanked (publications_of releases needs)
set_yanked-found [] needs version k yanked e h = absurd (omega (arith, h.found.0))
set_yanked-found (r ∷ rs) [] version k yanked e h = absurd (omega (arith, e))
set_yanked-found (r ∷ rs) (n ∷ ns) version zero yanked e h =
    let first : Publication = record { version = r.version; needs = n; yanked = r.yanked } in
    let changed : Publication = record { version = r.version; needs = n; yanked = yanked } in
    sym (ap (λ b. if b then changed ∷ publications_of rs ns else first ∷ set_yanked version yanked (publications_of rs ns)) h.found.1)
set_yanked-found (r ∷ rs) (n ∷ ns) version (suc k) yanked e h =
    let less : length ns ≡ length rs = omega (arith, e) in
    let first : Publication = record { version = r.version; needs = n; yanked = r.yanked } in
    let changed : Publication = record { version = r.version; needs = n; yanked = yanked } in
    ap (λ l. first ∷ l) (set_yanked-found rs ns version k yanked less (only-later r rs version k h))
    ∙ sym (ap (λ b. if b then changed ∷ publications_of rs ns else first ∷ set_yanked version yanked (publications_of rs ns)) (only-apart r rs version k h))

-- ---- by ordinal

meets-releases : (releases : List Release) (needs : List Needs) (need : Text) (k : ℕ) → length needs ≡ length releases
    → released.meets_at (released.versions_of releases) need k ≡ publication_meets (slice_get (publications_of releases needs) k) need
meets-releases [] needs need k e = refl
meets-releases (r ∷ rs) [] need k e = absurd (omega (arith, e))
meets-releases (r ∷ rs) (n ∷ ns) need zero e = refl
meets-releases (r ∷ rs) (n ∷ ns) need (suc k) e = meets-releases rs ns need k (omega (arith, e))

equals-releases : (releases : List Release) (needs : List Needs) (version : Text) (k : ℕ) → length needs ≡ length releases → IsFound (released.versions_of releases) version k
    → publication_equals (slice_get (publications_of releases needs) k) version ≡ true
equals-releases [] needs version k e h = absurd (omega (arith, h.0))
equals-releases (r ∷ rs) [] version k e h = absurd (omega (arith, e))
equals-releases (r ∷ rs) (n ∷ ns) version zero e h = h.1
equals-releases (r ∷ rs) (n ∷ ns) version (suc k) e h = equals-releases rs ns version k (omega (arith, e)) (omega (arith, h.0), h.1)

-- the ordinal of equal precedence, where it was found
pub if-found : (releases : List Release) (needs : List Needs) (version : Text) → length needs ≡ length releases → (result : Option ℕ)
    → IfSome result (IsFound (released.versions_of releases) version) → IfSome result (λ k. publication_equals (slice_get (publications_of releases needs) k) version ≡ true)
if-found releases needs version e None h = h
if-found releases needs version e (Some k) h = equals-releases releases needs version k e h

-- the ordinals that meet a requirement, where they were found
pub if-matching : (releases : List Release) (needs : List Needs) (need : Text) → length needs ≡ length releases → (result : Result Matching AllocError)
    → IfOk result (λ set. (k : ℕ) → has (ordinals_of set) k ≡ released.meets_at (released.versions_of releases) need k)
    → IfOk result (λ set. (k : ℕ) → has (ordinals_of set) k ≡ publication_meets (slice_get (publications_of releases needs) k) need)
if-matching releases needs need e (Ok set) h = λ k. h k ∙ meets-releases releases needs need k e
if-matching releases needs need e (Err fault) h = h

-- the lowest ordinals that meet a requirement, where their bits are kept
pub if-low_bits : (releases : List Release) (needs : List Needs) (named : List Text) (place : ℕ) → length needs ≡ length releases → (result : Option ℕ)
    → IfSome result (λ bits. (need : Text) × (slice_get named place ≡ Some need) × AreLowBits bits (released.meets_at (released.versions_of releases) need))
    → IfSome result (λ bits. (need : Text) × (slice_get named place ≡ Some need) × AreLowBits bits (λ k. publication_meets (slice_get (publications_of releases needs) k) need))
if-low_bits releases needs named place e (Some bits) h = (h.0, h.1, λ k lt. h.2 k lt ∙ meets-releases releases needs h.0 k e)
if-low_bits releases needs named place e None h = h

-- the ordinals that meet the requirement which is named at a place
pub if-named : (releases : List Release) (needs : List Needs) (named : List Text) (place : ℕ) → length needs ≡ length releases → (result : Option Matching)
    → IfSome result (λ set. (need : Text) × (slice_get named place ≡ Some need) × ((k : ℕ) → has (ordinals_of set) k ≡ released.meets_at (released.versions_of releases) need k))
    → IfSome result (λ set. (need : Text) × (slice_get named place ≡ Some need) × ((k : ℕ) → has (ordinals_of set) k ≡ publication_meets (slice_get (publications_of releases needs) k) need))
if-named releases needs named place e (Some set) h = (h.0, h.1, λ k. h.2 k ∙ meets-releases releases needs h.0 k e)
if-named releases needs named place e None h = h

-- the version with an ordinal is that of the publication there
version-placed : (releases : List Release) (needs : List Needs) (k : ℕ) (v : Publication) → slice_get (publications_of releases needs) k ≡ Some v
    → (k < length releases) × (version_at (released.versions_of releases) k ≡ v.version)
version-placed [] needs k v e = absurd (cc e)
version-placed (r ∷ rs) [] k v e = absurd (cc e)
version-placed (r ∷ rs) (n ∷ ns) zero v e =
    let same : (record { version = r.version; needs = n; yanked = r.yanked }) ≡ v = cc e in
    (omega arith, ap (λ (w : Publication). w.version) same)
version-placed (r ∷ rs) (n ∷ ns) (suc k) v e = let later = version-placed rs ns k v e in (omega (arith, later.0), later.1)

module _ (gives : ℕ → Bool → Type 0) (releases : List Release) (needs : List Needs) (paired : length needs ≡ length releases) where
  highest-releases : (k : ℕ) → rising.IsHighest gives (released.versions_of releases) k → IsHighest gives (publications_of releases needs) k
  highest-releases k h = record {
    published = omega (arith, h.published, length-map releases (λ (r : Release). r.version), length-publications_of releases needs paired);
    passes = h.passes;
    fails = λ j version other at_k at_j less.
        let one = version-placed releases needs k version at_k in
        let two = version-placed releases needs j other at_j in
        h.fails j (omega (arith, two.0, length-map releases (λ (r : Release). r.version)))
        (ap (λ t. precedence t (version_at (released.versions_of releases) j)) one.1 ∙ ap (λ t. precedence version.version t) two.1 ∙ less);
  }

  pub if-highest : (result : Option ℕ) → IfSome result (rising.IsHighest gives (released.versions_of releases)) → IfSome result (IsHighest gives (publications_of releases needs))
  if-highest None h = h
  if-highest (Some k) h = highest-releases k h

  pub if-none : (result : Option ℕ) → IfNone result ((k : ℕ) → k < length releases → gives k false)
      → IfNone result ((k : ℕ) → k < length (publications_of releases needs) → gives k false)
  if-none None h = λ k lt. h k (omega (arith, lt, length-publications_of releases needs paired))
  if-none (Some k) h = h
