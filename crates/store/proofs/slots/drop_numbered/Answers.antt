use Rattle.store.specs.Slots.{is_met}
use Rattle.store.proofs.Chained.{Walked-start}
use Rattle.store.proofs.Finding.{Walked-dropped, under-fails}
use Rattle.store.proofs.Thinning.{AreThinned-next, AreThinned-same}
use Rattle.store.proofs.slots.drop_numbered.Goals as goal

pub walk-init : goal.walk-init
walk-init c = (AreThinned-same _ c.args.slots.now, c.requires.count, Walked-start _ _ _ _ (c.first-at.ensures c.requires.whole))

pub walk-preserved : goal.walk-preserved
walk-preserved c = (
  AreThinned-next _ c.args.slots.now c.walk.slots _ c.in-Some.link.place c.walk.invariant.0 c.drop_under-left.ensures.dropped,
  c.drop_under-left.ensures.count,
  Walked-dropped _ _ _ _ c.walk.slots _ _ c.in-Some.link c.walk.invariant.2 c.in-Some.ensures.is.0 c.in-Some.ensures.is.1 c.in-Some.ensures.step c.drop_under-left.ensures.dropped c.drop_under-left.ensures.gone,
)

pub returns-clause-gone : goal.returns-clause-gone
returns-clause-gone c = λ place lines at under.
    under-fails (is_met c.args.pkg c.args.version.now) c.walk.slots c.args.members.now.links c.args.number _ c.walk.invariant.2 (c.in_default.ensures.none c.requires.whole) place lines at under
