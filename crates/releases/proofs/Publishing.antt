-- What is kept once a version is published.
use Rattle.std.proofs.Common.{◌≡◌, ◌<◌, ◌^◌, ◌∷◌, ◌++◌, [], ℕ, Bool, List, length, get_or, arith, ap, subst, sym, refl, inl, inr, true, length-append}
use Rattle.std.proofs.lemmas.Bool.{cases_lt}
use Rattle.std.proofs.lemmas.List.{get_or_append_left}
use Rattle.std.proofs.Math.Seq.{get_or-append_seam}
use Rattle.terms.specs.Growing.{Growing}
use Rattle.versions.specs.Bounds.{IsPlain, Reach}
use Rattle.versions.specs.Words.{Text}
use Rattle.releases.specs.declared.release.Release.{Release}
use Rattle.releases.specs.Kept.{AreBounds, AreMatching, IsKept}
use Rattle.releases.specs.Releases.{published, versions_of}
use Rattle.releases.specs.Rising.{ArePlain, IsRising}

versions_of-push : (releases : List Release) (version : Text) → versions_of (releases ++ published version ∷ []) ≡ versions_of releases ++ version ∷ []
versions_of-push [] version = refl
versions_of-push (r ∷ rest) version = ap (λ l. r.version ∷ l) (versions_of-push rest version)

ArePlain-push : (versions : List Text) (version : Text) → ArePlain versions → IsPlain version → ArePlain (versions ++ version ∷ [])
ArePlain-push versions version all one k lt = elim (cases_lt k (length versions)) [
  | inl older ↦ subst IsPlain (sym (get_or_append_left versions (version ∷ []) [] k older)) (all k older)
  | inr from ↦
      let is : length versions ≡ k = let n = length-append versions (version ∷ []) in omega (arith, lt, n) in
      subst (λ n. IsPlain (get_or (versions ++ version ∷ []) n [])) is (subst IsPlain (sym (get_or-append_seam versions version [] [])) one)
]

pub IsKept-published : (releases after : List Release) (version : Text) (rising : List ℕ) (needs : List Text) (sets : List Growing) (bounds : List Reach) (was_plain is_plain : Bool)
    → after ≡ releases ++ published version ∷ [] → length releases < 2 ^ 32 → IsRising (versions_of releases ++ version ∷ []) rising
    → AreMatching (versions_of releases ++ version ∷ []) needs sets → AreBounds needs bounds → (was_plain ≡ true → ArePlain (versions_of releases))
    → (is_plain ≡ true → (was_plain ≡ true) × IsPlain version) → IsKept after rising needs sets bounds is_plain
IsKept-published releases after version rising needs sets bounds was_plain is_plain is few in_order matching bounded plain both =
    let same = versions_of-push releases version in
    rw is (record {
      few = let n = length-append releases (published version ∷ []) in omega (arith, few, n);
      in_order = rw same in_order;
      matching = rw same matching;
      bounded = bounded;
      plain = λ h. let p = both h in rw same (ArePlain-push (versions_of releases) version (plain p.0) p.1);
    })
