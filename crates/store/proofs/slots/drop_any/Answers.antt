use Rattle.std.proofs.Common.{arith, rules}
use Rattle.store.specs.Slots.{is_met}
use Rattle.store.proofs.Thinning.{AreFewer-thinned, AreThinned-next, AreThinned-same, fails_all, fails_below, kept_thinned}
use Rattle.store.proofs.slots.drop_any.Goals as goal

pub loop-place-init : goal.loop-place-init
loop-place-init c = (AreThinned-same _ c.args.slots.now, c.requires, λ k lt. absurd (omega (arith, lt)))

pub loop-place-preserved : goal.loop-place-preserved
loop-place-preserved c = (
  AreThinned-next _ c.args.slots.now c.loop-place.slots _ c.loop-place.place c.loop-place.invariant.0 c.drop_at-left.ensures.dropped,
  c.drop_at-left.ensures.count,
  fails_below _ c.loop-place.slots _ c.loop-place.place c.drop_at-left.ensures.dropped c.drop_at-left.ensures.gone c.loop-place.invariant.2,
)

pub returns-clause-kept : goal.returns-clause-kept
returns-clause-kept c =
    kept_thinned (is_met c.args.pkg c.args.version.now) c.args.slots.now c.loop-place.slots c.loop-place.invariant.0
    (fails_all (is_met c.args.pkg c.args.version.now) c.loop-place.slots c.loop-place.place (search rules) c.loop-place.invariant.2)

pub returns-clause-fewer : goal.returns-clause-fewer
returns-clause-fewer c = AreFewer-thinned _ c.args.slots.now c.loop-place.slots c.loop-place.invariant.0
