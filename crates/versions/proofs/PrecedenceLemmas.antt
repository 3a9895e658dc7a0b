-- Precedence of texts: a total preorder, and what was read gives the same.
use Rattle.std.proofs.Common.{◌≡◌, refl}
use Rattle.std.specs.Prelude.{Ok}
use Rattle.std.specs.Cmp.{IsEquivalence, IsTotalOrder, eq_by_cmp_equiv, nat_cmp_total, on_total, then_total}
use Rattle.std.specs.Ordering.{is_eq}
use Rattle.semver.specs.Eval.{precedence_cmp}
use Rattle.semver.specs.Identifiers.{parts_of}
use Rattle.semver.specs.OrderLaws.{pre_total}
use Rattle.semver.specs.Parse.{Parts, version_parts}
use Rattle.semver.specs.declared.Version.{Version}
use Rattle.versions.specs.Words.{Text, parts_of_text, parts_precedence, precedence, same_precedence}

-- what `cmp_precedence` answers, from the texts
pub precedence-read : (a b : Text) (v w : Version) → version_parts a ≡ Ok (parts_of v) → version_parts b ≡ Ok (parts_of w)
    → precedence_cmp v w ≡ precedence a b
unfolding precedence parts_of_text
precedence-read a b v w e f = rw (e, f) refl

parts_total : IsTotalOrder parts_precedence
parts_total = then_total (on_total (λ (p : Parts). p.0) nat_cmp_total) (then_total (on_total (λ (p : Parts). p.1) nat_cmp_total)
    (then_total (on_total (λ (p : Parts). p.2) nat_cmp_total) (on_total (λ (p : Parts). p.3) pre_total)))

-- precedence orders texts, up to ties
pub precedence_total : IsTotalOrder precedence
unfolding precedence
precedence_total = on_total parts_of_text parts_total

-- equal precedence is a tie of the order
pub same_precedence-tie : (a b : Text) → same_precedence a b ≡ is_eq (precedence a b)
unfolding same_precedence
same_precedence-tie a b = refl

-- equal precedence is reflexive and symmetric, and texts of equal precedence share it with the same texts
pub same_precedence_equiv : IsEquivalence same_precedence
unfolding same_precedence
same_precedence_equiv = eq_by_cmp_equiv precedence_total
