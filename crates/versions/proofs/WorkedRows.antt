-- Rows of the published tables, computed from the definitions.
use Rattle.std.proofs.Common.{◌≡◌, refl, true, false, codes}
use Rattle.std.specs.declared.cmp.Ordering.TheVariants.{Less}
use Rattle.semver.proofs.OnLiterals.{semver_on_literals}
use Rattle.versions.specs.Words.{is_name, is_version, meets, parts_of_text, precedence, same_precedence}

build-does-not-count : same_precedence (codes "1.0.0+x") (codes "1.0.0+y") ≡ true
unfolding semver_on_literals same_precedence precedence parts_of_text
build-does-not-count = refl

pre_release-is-lower : precedence (codes "1.0.0-rc.1") (codes "1.0.0") ≡ Less
unfolding semver_on_literals precedence parts_of_text
pre_release-is-lower = refl

caret : meets (codes "0.2.3") (codes "0.2.9") ≡ true
unfolding semver_on_literals meets
caret = refl

caret-not : meets (codes "0.2.3") (codes "0.3.0") ≡ false
unfolding semver_on_literals meets
caret-not = refl

caret-pre : meets (codes "^1.0.0") (codes "1.0.0-alpha") ≡ false
unfolding semver_on_literals meets
caret-pre = refl

caret-pre-within : meets (codes "^1.0.0") (codes "1.1.0-alpha") ≡ false
unfolding semver_on_literals meets
caret-pre-within = refl

caret-pre-named : meets (codes "^1.0.0-alpha") (codes "1.0.0-alpha") ≡ true
unfolding semver_on_literals meets
caret-pre-named = refl

both : meets (codes ">=1.2.0, <1.5.0") (codes "1.4.9") ≡ true
unfolding semver_on_literals meets
both = refl

no-name : is_name (codes "A") ≡ false
no-name = refl

no-version : is_version (codes "1.0") ≡ false
unfolding semver_on_literals
no-version = refl
