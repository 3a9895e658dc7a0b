use Rattle.std.proofs.Common.{◌≡◌, false, refl, sym, subst}
use Rattle.std.proofs.lemmas.Option.{slice_get_read}
use Rattle.terms.specs.Incompats.{has_term}
use Rattle.derivations.specs.Facts.{Terms}
use Rattle.checker.proofs.Joining.{not-yet}
use Rattle.checker.proofs.table.Table.start.Goals as goal

pub push-requires : goal.push-requires
push-requires c =
    let terms = c.args.terms.now in
    let item = c.loop-pkg-item.result in
    subst (λ (made : Terms). has_term made item.0 ≡ false) (sym c.loop-pkg.invariant)
    (not-yet terms c.loop-pkg.pkg-index item.0 item.1 c.requires (slice_get_read terms _ c.loop-pkg.pkg-index item refl c.loop-pkg-test.true c.loop-pkg-item.is))
