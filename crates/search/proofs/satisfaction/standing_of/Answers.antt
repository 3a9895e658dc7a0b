use Rattle.std.proofs.Common.{refl}
use Rattle.std.proofs.lemmas.List.{take_all}
use Rattle.search.proofs.TermsSeen.{seen_implied, seen_excluded, seen_left_out, seen_second}
use Rattle.search.proofs.satisfaction.standing_of.Goals as goal
use Rattle.search.proofs.satisfaction.standing_of.Goals.{in-Satisfies, in-Inconclusive+else-is_some}

pub returns-in-Contradicts : goal.returns-in-Contradicts
returns-in-Contradicts c =
    seen_excluded c.args.trail.now.made.items c.args.terms.now c.requires.lawful c.loop-entry.entry-index c.entry-item.result c.loop-entry-test.true c.entry-item.is
    c.said_on-said.result.now c.said_on-said.ensures c.in-Contradicts.ensures

pub returns-then-is_some : goal.returns-then-is_some
returns-then-is_some c =
    seen_second c.args.trail.now.made.items c.args.terms.now c.requires.lawful c.loop-entry.entry-index c.entry-item.result c.loop-entry-test.true c.entry-item.is
    c.said_on-said.result.now c.said_on-said.ensures c.loop-entry.out c.is_some.result c.loop-entry.invariant c.if-is_some.true c.is_some.ensures c.in-Inconclusive.ensures

pub loop-entry-preserved : goal.loop-entry-preserved
loop-entry-preserved c =
    elim c.match-relation.branch [
      | in-Satisfies w ↦
          seen_implied c.args.trail.now.made.items c.args.terms.now c.requires.lawful c.loop-entry.entry-index c.entry-item.result c.loop-entry-test.true c.entry-item.is
          c.said_on-said.result.now c.said_on-said.ensures c.loop-entry.out c.match-relation.out c.loop-entry.invariant w.out-is w.in-Satisfies.ensures
      | in-Inconclusive+else-is_some w ↦
          seen_left_out c.args.trail.now.made.items c.args.terms.now c.requires.lawful c.loop-entry.entry-index c.entry-item.result c.loop-entry-test.true c.entry-item.is
          c.said_on-said.result.now c.said_on-said.ensures c.loop-entry.out c.match-relation.out w.is_some.result c.loop-entry.invariant w.if-is_some.false w.is_some.ensures w.out-is w.in-Inconclusive.ensures
    ]

pub loop-entry-init : goal.loop-entry-init
loop-entry-init c = λ _ _ _. refl

pub returns-in-None : goal.returns-in-None
returns-in-None c =
    let all = take_all c.loop-entry.entry-index c.args.terms.now c.loop-entry-test.false in
    rw (all, c.in-None.is) at c.loop-entry.invariant

pub returns-in-Some : goal.returns-in-Some
returns-in-Some c =
    let all = take_all c.loop-entry.entry-index c.args.terms.now c.loop-entry-test.false in
    rw (all, c.in-Some.is) at c.loop-entry.invariant
