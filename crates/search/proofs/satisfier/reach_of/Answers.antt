use Rattle.std.proofs.Common.{arith, sym, subst}
use Rattle.search.specs.Trail.{IsPlaceOn}
use Rattle.search.proofs.Places.{last_on_package}
use Rattle.search.proofs.Reaching.{holds-last, reached-all, reached-further, reached-no_further}
use Rattle.search.proofs.satisfier.reach_of.Goals as goal
use Rattle.search.proofs.satisfier.reach_of.Goals.{then-count-reach, else-count-reach}

pub shortest_on-count-requires-clause-on : goal.shortest_on-count-requires-clause-on
shortest_on-count-requires-clause-on c =
    let made = c.args.trail.now.made.items in
    subst (IsPlaceOn made c.index-terms-i.result.0) (sym c.last_on.ensures) (last_on_package made c.index-terms-i.result.0)

pub shortest_on-count-requires-clause-holds : goal.shortest_on-count-requires-clause-holds
shortest_on-count-requires-clause-holds c =
    holds-last c.args.trail.now.made.items c.args.terms.now c.requires.lawful c.loop-i.i c.index-terms-i.result c.loop-i-test.true c.index-terms-i.is c.requires.satisfied c.last_on.result c.last_on.ensures

pub loop-i-preserved : goal.loop-i-preserved
loop-i-preserved c =
    let made = c.args.trail.now.made.items in
    let terms = c.args.terms.now in
    let old = c.loop-i.reach in
    let ordered = c.loop-i.invariant.ordered in
    elim c.if-count-reach.branch [
      | then-count-reach w ↦
          rw w.reach-is (reached-further made terms c.requires.lawful c.loop-i.i c.index-terms-i.result c.loop-i-test.true c.index-terms-i.is
          old.count old.own old.others c.shortest_on-count.result c.loop-i.invariant (c.shortest_on-count.ensures.shortest (omega (arith, ordered, w.if-count-reach.true))) w.if-count-reach.true)
      | else-count-reach w ↦
          rw w.reach-is (reached-no_further made terms c.requires.lawful c.loop-i.i c.index-terms-i.result c.loop-i-test.true c.index-terms-i.is
          old.count old.own old.others c.shortest_on-count.result c.loop-i.invariant c.shortest_on-count.ensures.shortest c.shortest_on-count.ensures.holds w.max.result w.if-count-reach.false w.max.ensures)
    ]

pub returns : goal.returns
returns c =
    reached-all c.args.trail.now.made.items c.args.terms.now c.requires.lawful c.loop-i.i c.loop-i.reach.count c.loop-i.reach.own c.loop-i.reach.others c.loop-i-test.false c.requires.some c.loop-i.invariant
