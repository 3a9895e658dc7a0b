-- Worked rows of the newest selection, computed from the definitions.
use Rattle.std.proofs.Common.{◌≡◌, refl, true, false, codes, List, [], ◌∷◌}
use Rattle.std.specs.Prelude.{None, Some}
use Rattle.versions.specs.OnLiterals.{semver_on_literals}
use Rattle.versions.specs.Words.{Text, parts_of_text, precedence, same_precedence}
use Rattle.walk.specs.Newest.{is_preferred_to, next_package}
use Rattle.registry.specs.Registry.{Packages, Publication, number_of, package_at, publication_at}
use Rattle.registry.specs.Requests.{Wanted}
use Rattle.registry.specs.Step.{Publish, after}

-- ---- which of two versions is preferred

version : Text → Publication
version text = record { version = text; needs = []; yanked = false }

wanted : List (Text × Text) → Wanted
wanted lock = record { needs = []; lock = lock }

-- the higher one
higher : is_preferred_to (wanted []) (codes "a") (version (codes "1.10.0")) (version (codes "1.9.0")) ≡ true
unfolding semver_on_literals same_precedence precedence parts_of_text wanted version
higher = refl

lower : is_preferred_to (wanted []) (codes "a") (version (codes "1.9.0")) (version (codes "1.10.0")) ≡ false
unfolding semver_on_literals same_precedence precedence parts_of_text wanted version
lower = refl

-- the one that the lock names
locked : is_preferred_to (wanted ((codes "a", codes "1.9.0+x") ∷ [])) (codes "a") (version (codes "1.9.0")) (version (codes "1.10.0")) ≡ true
unfolding semver_on_literals same_precedence precedence parts_of_text wanted version
locked = refl

-- and not the other way round
unlocked : is_preferred_to (wanted ((codes "a", codes "1.9.0+x") ∷ [])) (codes "a") (version (codes "1.10.0")) (version (codes "1.9.0")) ≡ false
unfolding semver_on_literals same_precedence precedence parts_of_text wanted version
unlocked = refl

-- the lock of another package says nothing
elsewhere : is_preferred_to (wanted ((codes "b", codes "1.9.0") ∷ [])) (codes "a") (version (codes "1.10.0")) (version (codes "1.9.0")) ≡ true
unfolding semver_on_literals same_precedence precedence parts_of_text wanted version
elsewhere = refl

-- ---- the walk

-- packages 1 to 4: z, which depends on c and b; c; b, which depends on c; m
unfoldable four : Packages
four = after (after (after (after [] (Publish (codes "z") (codes "1.0.0") ((codes "c", codes "*") ∷ (codes "b", codes "*") ∷ []))) (Publish (codes "b") (codes "1.0.0") ((codes "c", codes "*") ∷ [])))
    (Publish (codes "m") (codes "1.0.0") [])) (Publish (codes "c") (codes "1.0.0") [])

asked : List (Text × Text)
asked = (codes "z", codes "*") ∷ (codes "m", codes "*") ∷ []

-- the needs come first, by name
first : next_package four asked [] ≡ Some 4
unfolding semver_on_literals four after number_of package_at publication_at same_precedence precedence parts_of_text asked
first = refl

second : next_package four asked ((4, 0) ∷ []) ≡ Some 1
unfolding semver_on_literals four after number_of package_at publication_at same_precedence precedence parts_of_text asked
second = refl

-- then what a version depends on, in published order
third : next_package four asked ((4, 0) ∷ (1, 0) ∷ []) ≡ Some 2
unfolding semver_on_literals four after number_of package_at publication_at same_precedence precedence parts_of_text asked
third = refl

fourth : next_package four asked ((4, 0) ∷ (1, 0) ∷ (2, 0) ∷ []) ≡ Some 3
unfolding semver_on_literals four after number_of package_at publication_at same_precedence precedence parts_of_text asked
fourth = refl

-- and each package once
ended : next_package four asked ((4, 0) ∷ (1, 0) ∷ (2, 0) ∷ (3, 0) ∷ []) ≡ None
unfolding semver_on_literals four after number_of package_at publication_at same_precedence precedence parts_of_text asked
ended = refl
