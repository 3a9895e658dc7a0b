use Rattle.std.proofs.Common.{◌≡◌, ◌+◌, drop, nat_eq, refl, sym, subst, true}
use Rattle.std.proofs.lemmas.Bool.{eq-eqb, ne_eqb}
use Rattle.derivations.specs.Facts.{Terms}
use Rattle.checker.proofs.Joining.{IsJoining, drop-item, joining-past, joining-step}
use Rattle.checker.proofs.table.Table.and_others.Goals.{then-pkg-pivot+in_ok-and, else-pkg-pivot}
use Rattle.checker.proofs.table.Table.and_others.Goals as goal

pub loop-pkg-preserved : goal.loop-pkg-preserved
loop-pkg-preserved c =
    let old = c.args.self.now in
    let cause = c.args.cause.now in
    let item = c.loop-pkg-item.result in
    let rest = drop (c.loop-pkg.pkg-index + 1) cause in
    let before = subst (λ (left : Terms). IsJoining old c.loop-pkg.self cause left c.args.pivot) (drop-item cause c.loop-pkg.pkg-index item c.loop-pkg-test.true c.loop-pkg-item.is) c.loop-pkg.invariant in
    elim c.if-pkg-pivot.branch [
      | then-pkg-pivot+in_ok-and w ↦ subst (λ (now : Terms). IsJoining old now cause rest c.args.pivot) (sym w.self-is)
          (joining-step old c.loop-pkg.self w.and.new.self cause rest c.args.pivot item.0 item.1 (ne_eqb item.0 c.args.pivot w.if-pkg-pivot.true) w.in_ok-and.ensures before)
      | else-pkg-pivot w ↦ subst (λ (now : Terms). IsJoining old now cause rest c.args.pivot) (sym w.self-is)
          (joining-past old c.loop-pkg.self cause rest c.args.pivot item.0 item.1 (subst (λ p. nat_eq item.0 p ≡ true) w.if-pkg-pivot.false (eq-eqb item.0 item.0 refl)) before)
    ]
