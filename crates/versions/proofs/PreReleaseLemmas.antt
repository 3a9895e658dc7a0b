-- A pre-release meets a requirement only where a comparator names it.
use Rattle.std.proofs.Common.{◌≡◌, ◌<◌, ℕ, Bool, true, false, List, Option, Some, None, length, sym, ap, true≢false, rules}
use Rattle.std.specs.Prelude.{◌&&◌, ◌||◌, ◌==◌, Any}
use Rattle.std.specs.List.{list_all, list_any}
use Rattle.std.proofs.lemmas.List.Folds.{Any-from_list_any}
use Rattle.semver.specs.Eval.{same_number}
use Rattle.semver.specs.EvalViews.{matches_views, view_op, view_pre_is_compatible}
use Rattle.semver.specs.Parse.{Held, Parts}
use Rattle.versions.specs.PreReleases.{NamesPreRelease, PreReleasesAreNamed}
use Rattle.versions.specs.Words.{meets}

second-holds : (a b : Bool) → (a && b) ≡ true → b ≡ true
second-holds true b h = h
second-holds false b h = absurd (true≢false (sym h))

number-is : (o : Option ℕ) (x : ℕ) → same_number o x ≡ true → o ≡ Some x
number-is None x h = absurd (true≢false (sym h))
number-is (Some y) x h = let same : y ≡ x = search rules in ap (λ n. Some n) same

names : (c : Held) (v : Parts) → view_pre_is_compatible c v ≡ true → NamesPreRelease v c
names c v h =
    let minor : same_number c.2 v.1 ≡ true = search rules in
    let patch : same_number c.3 v.2 ≡ true = search rules in
    record { major = search rules; minor = number-is c.2 v.1 minor; patch = number-is c.3 v.2 patch; pre_release = search rules }

named : (cs : List Held) (v : Parts) → 0 < length v.3 → matches_views cs v ≡ true → Any (NamesPreRelease v) cs
named cs v pre h =
    let filled : (length v.3 == 0) ≡ false = search rules in
    let test = λ (c : Held). view_pre_is_compatible c v in
    let allowed = second-holds (list_all (λ c. view_op c.0 c v) cs) (length v.3 == 0 || list_any test cs) h in
    let some = Any-from_list_any test cs (rw filled at allowed) in
    (some.0, some.1, some.2, some.3, names some.1 v some.4)

pub pre_releases-named : PreReleasesAreNamed
unfolding meets
pre_releases-named requirement version comparators parts read told pre h = named comparators parts pre (rw (read, told) at h)
