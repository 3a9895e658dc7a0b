use Rattle.std.proofs.Common.{◌≡◌, rules, subst}
use Rattle.store.specs.Indexes.{chain_of}
use Rattle.store.specs.Slots.{is_met}
use Rattle.store.proofs.Chained.{Walked, Walked-next, Walked-start, Walked-weaker}
use Rattle.store.proofs.Thinning.{AreFewer-thinned, AreThinned-join, AreThinned-same, kept_thinned}
use Rattle.store.proofs.Wanting.{AreHeld-fewer, DropsAt, DropsAt-fewer, none-met}
use Rattle.store.proofs.requirement_index.drop_found.Goals as goal

pub walk-init : goal.walk-init
walk-init c =
    let number : c.from.result ≡ c.args.pkg = search rules in (
      AreThinned-same _ c.args.slots.now,
      c.requires.count,
      subst (λ n. Walked c.args.targets.now.links (chain_of n) c.first-at.result (DropsAt c.args.wants.now c.args.members.now.links c.args.pkg c.args.version.now c.args.slots.now)) number
          (Walked-start _ _ _ _ (c.first-at.ensures c.requires.whole.0)),
    )

pub walk-preserved : goal.walk-preserved
walk-preserved c =
    let drops : DropsAt c.args.wants.now c.args.members.now.links c.args.pkg c.args.version.now c.drop_linked-left.new.slots c.in-Some.link = c.drop_linked-left.ensures.dropped in (
      AreThinned-join _ c.args.slots.now c.walk.slots _ c.walk.invariant.0 c.drop_linked-left.ensures.thinned,
      c.drop_linked-left.ensures.count,
      Walked-next _ _ _ (DropsAt c.args.wants.now c.args.members.now.links c.args.pkg c.args.version.now c.drop_linked-left.new.slots) c.in-Some.link
          (Walked-weaker _ _ _ _ _ (DropsAt-fewer _ _ _ _ _ _ (AreFewer-thinned _ c.walk.slots _ c.drop_linked-left.ensures.thinned)) c.walk.invariant.2)
          c.in-Some.ensures.is.0 c.in-Some.ensures.is.1 c.in-Some.ensures.step drops,
    )

pub returns-clause-kept : goal.returns-clause-kept
returns-clause-kept c =
    kept_thinned (is_met c.args.pkg c.args.version.now) c.args.slots.now c.walk.slots c.walk.invariant.0
    (none-met _ c.walk.slots c.args.pkg c.args.version.now _ c.requires.whole (AreHeld-fewer _ c.args.slots.now c.walk.slots (AreFewer-thinned _ c.args.slots.now c.walk.slots c.walk.invariant.0) c.requires.held)
    c.walk.invariant.2 (c.in_default.ensures.none c.requires.whole.0))

pub returns-clause-fewer : goal.returns-clause-fewer
returns-clause-fewer c = AreFewer-thinned _ c.args.slots.now c.walk.slots c.walk.invariant.0
