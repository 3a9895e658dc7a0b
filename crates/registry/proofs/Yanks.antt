-- Releases of which one is yanked, or none.
use Rattle.std.proofs.Common.{◌≡◌, ◌<◌, ◌∙◌, ◌||◌, ℕ, zero, suc, List, [], ◌∷◌, ◌++◌, length, refl, ap, arith, Bool, true, false}
use Rattle.releases.specs.declared.release.Release.{Release}
use Rattle.releases.specs.Releases.{marked}
use Rattle.versions.specs.Words.{Text}
use Rattle.registry.specs.Publications.{any_yanked, publications_of}
use Rattle.registry.specs.Registry.{has_yank}

pub length-marked : (releases : List Release) (place : ℕ) (yanked : Bool) → length (marked releases place yanked) ≡ length releases
length-marked [] place yanked = refl
length-marked (r ∷ rs) zero yanked = refl
length-marked (r ∷ rs) (suc place) yanked = ap suc (length-marked rs place yanked)

or_true : (b : Bool) → (b || true) ≡ true
or_true true = refl
or_true false = refl

-- one that is yanked now
pub yanked-marked : (releases : List Release) (place : ℕ) → place < length releases → any_yanked (marked releases place true) ≡ true
yanked-marked [] place lt = absurd (omega (arith, lt))
yanked-marked (r ∷ rs) zero lt = refl
yanked-marked (r ∷ rs) (suc place) lt = ap (λ b. r.yanked || b) (yanked-marked rs place (omega (arith, lt))) ∙ or_true r.yanked

-- one more that is not yanked
pub yanked-more : (releases : List Release) (version : Text) → any_yanked (releases ++ (record { version = version; yanked = false }) ∷ []) ≡ any_yanked releases
yanked-more [] version = refl
yanked-more (r ∷ rs) version = ap (λ b. r.yanked || b) (yanked-more rs version)

-- then one of the publications is
pub yanked-publications : (releases : List Release) (needs : List (List (Text × Text))) → length needs ≡ length releases → any_yanked releases ≡ has_yank (publications_of releases needs)
yanked-publications [] needs e = refl
yanked-publications (r ∷ rs) [] e = absurd (omega (arith, e))
yanked-publications (r ∷ rs) (n ∷ ns) e = ap (λ b. r.yanked || b) (yanked-publications rs ns (omega (arith, e)))
