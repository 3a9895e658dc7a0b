-- Worked rows, computed from the definitions.
use Rattle.std.proofs.Common.{◌≡◌, [], ◌∷◌, codes, refl, true, false}
use Rattle.std.specs.Prelude.{None, Some, Ok, Err}
use Rattle.versions.specs.OnLiterals.{semver_on_literals}
use Rattle.versions.specs.Words.{parts_of_text, precedence, same_precedence}
use Rattle.versions.specs.declared.refusal.Refusal.TheVariants as refusal
use Rattle.registry.specs.Registry.{Packages, is_published, number_of, package_at, publication_at}
use Rattle.registry.specs.Step.{Publish, Unyank, Yank, after, refusal_of, step}

-- ---- publications

-- the first publication numbers its package
first-publication : step [] (Publish (codes "a") (codes "1.0.0") []) ≡ Ok ((record {
  name = codes "a";
  versions = (record { version = codes "1.0.0"; needs = []; yanked = false }) ∷ [];
}) ∷ [])
unfolding refusal_of after
first-publication = refl

-- one version is not published twice, whatever its build metadata
published-twice : step (after [] (Publish (codes "a") (codes "1.0.0+x") [])) (Publish (codes "a") (codes "1.0.0+y") []) ≡ Err refusal.AlreadyPublished
unfolding semver_on_literals refusal_of after same_precedence precedence parts_of_text
published-twice = refl

-- a pre-release is another version
pre-release : refusal_of (after [] (Publish (codes "a") (codes "1.0.0") [])) (Publish (codes "a") (codes "1.0.0-alpha") []) ≡ None
unfolding semver_on_literals refusal_of after same_precedence precedence parts_of_text
pre-release = refl

self-dependency : step [] (Publish (codes "a") (codes "1.0.0") ((codes "a", codes "^1") ∷ [])) ≡ Err refusal.SelfDependency
unfolding refusal_of
self-dependency = refl

repeated-dependency : step [] (Publish (codes "a") (codes "1.0.0") ((codes "b", codes "^1") ∷ (codes "b", codes "^2") ∷ [])) ≡ Err refusal.RepeatedDependency
unfolding refusal_of
repeated-dependency = refl

-- a publication that both repeats a name and depends on itself is refused for the first
repeated-self : step [] (Publish (codes "a") (codes "1.0.0") ((codes "a", codes "^1") ∷ (codes "a", codes "^2") ∷ [])) ≡ Err refusal.RepeatedDependency
unfolding refusal_of
repeated-self = refl

-- a name that is a dependency is numbered before it is published, after the package that names it
numbered : number_of (after [] (Publish (codes "b") (codes "1.0.0") ((codes "a", codes "^1") ∷ []))) (codes "a") ≡ Some 2
unfolding after number_of
numbered = refl

named-unpublished : is_published (after [] (Publish (codes "b") (codes "1.0.0") ((codes "a", codes "^1") ∷ []))) 2 0 ≡ false
unfolding after publication_at package_at
named-unpublished = refl

-- ---- yanks

unfoldable one : Packages
one = after [] (Publish (codes "a") (codes "1.0.0+x") [])

-- a yank finds a version by equal precedence, and keeps the text that was published
yanked : step one (Yank (codes "a") (codes "1.0.0")) ≡ Ok ((record {
  name = codes "a";
  versions = (record { version = codes "1.0.0+x"; needs = []; yanked = true }) ∷ [];
}) ∷ [])
unfolding semver_on_literals one refusal_of after same_precedence precedence parts_of_text
yanked = refl

yanked-twice : step (after one (Yank (codes "a") (codes "1.0.0"))) (Yank (codes "a") (codes "1.0.0+y")) ≡ Err refusal.AlreadyYanked
unfolding semver_on_literals one refusal_of after same_precedence precedence parts_of_text
yanked-twice = refl

-- the undoing of a yank gives the packages before it
unyanked : step (after one (Yank (codes "a") (codes "1.0.0"))) (Unyank (codes "a") (codes "1.0.0")) ≡ Ok one
unfolding semver_on_literals one refusal_of after same_precedence precedence parts_of_text
unyanked = refl

not-yanked : step one (Unyank (codes "a") (codes "1.0.0")) ≡ Err refusal.NotYanked
unfolding semver_on_literals one refusal_of after same_precedence precedence parts_of_text
not-yanked = refl

no-such-version : step one (Yank (codes "a") (codes "2.0.0")) ≡ Err refusal.NoSuchVersion
unfolding semver_on_literals one refusal_of after same_precedence precedence parts_of_text
no-such-version = refl

no-such-package : step one (Yank (codes "b") (codes "1.0.0")) ≡ Err refusal.NoSuchVersion
unfolding semver_on_literals one refusal_of after same_precedence precedence parts_of_text
no-such-package = refl
