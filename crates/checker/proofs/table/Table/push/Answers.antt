use Rattle.std.proofs.Common.{◌≡◌, ◌<◌, arith, false, length, sym, subst}
use Rattle.std.specs.Prelude.{slice_set}
use Rattle.terms.specs.Incompats.{has_term}
use Rattle.derivations.specs.Facts.{Terms}
use Rattle.checker.specs.Tables.{ArePlaced}
use Rattle.checker.proofs.Joining.{placed-push}
use Rattle.checker.proofs.table.Table.push.Goals as goal

pub invariant_of-self : goal.invariant_of-self
invariant_of-self c = subst (λ (terms : Terms). ArePlaced 0 c.self.inside.places.items terms) (sym c.in_err-push.ensures.items) c.self.invariant

pub invariant_of-self-2 : goal.invariant_of-self-2
invariant_of-self-2 c =
    let places = c.self.inside.places.items in
    let old = c.self.inside.terms.items in
    let none = subst (λ (terms : Terms). has_term terms c.args.pkg ≡ false) (sym c.self.view_is) c.requires in
    let within : c.args.pkg < length places = omega (arith, c.if-pkg-len.false, c.len.ensures) in
    subst (λ (terms : Terms). ArePlaced 0 (slice_set places c.args.pkg c.len-place.result) terms) (sym c.in_ok-push.ensures.items)
    (placed-push 0 places old c.args.pkg c.len-place.result c.args.said c.self.invariant none within (omega (arith, c.len-place.ensures)))
