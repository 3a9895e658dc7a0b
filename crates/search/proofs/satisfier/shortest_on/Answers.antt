use Rattle.std.proofs.Common.{◌<◌, add-one, arith, subst, take}
use Rattle.search.specs.Trail.{through, IsPlaceOn}
use Rattle.search.specs.Reach.{Holds}
use Rattle.search.proofs.satisfier.shortest_on.Goals as goal

pub step_back-requires-clause-holds : goal.step_back-requires-clause-holds
step_back-requires-clause-holds c = subst (λ o. Holds (take (through o) c.args.trail.now.made.items) c.args.entry.now.0 c.args.entry.now.1) c.in-Some.is c.walk.invariant.holds

pub walk-smaller : goal.walk-smaller
walk-smaller c = let held = c.in-Some-step_back.ensures.some in rw c.in-Some.is (omega (arith, held.before))

pub walk-preserved : goal.walk-preserved
walk-preserved c =
    let held = c.in-Some-step_back.ensures.some in
    let less : through c.in-Some-step_back.before < through c.walk.place = rw c.in-Some.is (omega (arith, held.before)) in
    record {
      on = held.on;
      holds = held.holds;
      within = omega (arith, less, c.walk.invariant.within);
    }

pub returns-then-at-enough-clause-holds : goal.returns-then-at-enough-clause-holds
returns-then-at-enough-clause-holds c =
    rw add-one (subst (λ o. Holds (take (through o) c.args.trail.now.made.items) c.args.entry.now.0 c.args.entry.now.1) c.in-Some.is c.walk.invariant.holds)

pub walk-init : goal.walk-init
walk-init c = record { on = c.requires.on; holds = c.requires.holds; within = omega arith }

pub step_back-requires-clause-on : goal.step_back-requires-clause-on
step_back-requires-clause-on c = subst (IsPlaceOn c.args.trail.now.made.items c.args.entry.now.0) c.in-Some.is c.walk.invariant.on

pub returns-then-at-enough-clause-shortest : goal.returns-then-at-enough-clause-shortest
returns-then-at-enough-clause-shortest c = λ enough. absurd (omega (arith, enough, c.if-at-enough.true))

pub returns-then-at-enough-clause-within : goal.returns-then-at-enough-clause-within
returns-then-at-enough-clause-within c = let within = rw c.in-Some.is at c.walk.invariant.within in omega (arith, within)

pub returns-in-None-clause-shortest : goal.returns-in-None-clause-shortest
returns-in-None-clause-shortest c = λ _. c.in-None.ensures.none

pub returns-in-None-clause-holds : goal.returns-in-None-clause-holds
returns-in-None-clause-holds c = let shortest = c.in-None.ensures.none in shortest.least.0

pub returns-in-None-clause-within : goal.returns-in-None-clause-within
returns-in-None-clause-within c = let within = rw c.in-Some.is at c.walk.invariant.within in omega (arith, within)

pub returns-clause-shortest : goal.returns-clause-shortest
returns-clause-shortest c = λ _. record {
  within = omega arith;
  least = (subst (λ o. Holds (take (through o) c.args.trail.now.made.items) c.args.entry.now.0 c.args.entry.now.1) c.in_default.is c.walk.invariant.holds, λ k below _. omega (arith, below));
}

pub returns-clause-holds : goal.returns-clause-holds
returns-clause-holds c = subst (λ o. Holds (take (through o) c.args.trail.now.made.items) c.args.entry.now.0 c.args.entry.now.1) c.in_default.is c.walk.invariant.holds
