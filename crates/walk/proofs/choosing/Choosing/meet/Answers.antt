use Rattle.std.proofs.Common.{◌≤◌, arith, length, refl}
use Rattle.registry.specs.Registry.{needs_of}
use Rattle.walk.proofs.Bests.{asks_all, asks_line, asks_none, grown_both, grown_of, meets_both, meets_none}
use Rattle.walk.proofs.choosing.Choosing.meet.Goals as goal

pub loop-index-init : goal.loop-index-init
loop-index-init c = record {
  meets = meets_none c.args.registry.now.packages c.args.version.0 c.args.version.1 c.args.self.now;
  asks = asks_none c.args.registry.now.packages (needs_of c.args.registry.now.packages c.args.version.0 c.args.version.1) c.args.is_chosen c.args.self.now.asked.items;
  grown = grown_of c.args.self.now c.args.self.now refl refl;
}

pub returns-then-not-branch-clause-meets : goal.returns-then-not-branch-clause-meets
returns-then-not-branch-clause-meets c =
    meets_both c.args.registry.now.packages c.args.version.0 c.args.version.1 c.args.self.now c.loop-index.self c.meet_at.new.self c.loop-index.invariant.meets c.in_ok-meet_at.ensures.meets

pub returns-then-not-branch-clause-grown : goal.returns-then-not-branch-clause-grown
returns-then-not-branch-clause-grown c = grown_both c.args.self.now c.loop-index.self c.meet_at.new.self c.loop-index.invariant.grown c.in_ok-meet_at.ensures.grown

pub loop-index-preserved : goal.loop-index-preserved
loop-index-preserved c = record {
  meets = meets_both c.args.registry.now.packages c.args.version.0 c.args.version.1 c.args.self.now c.loop-index.self c.meet_at.new.self c.loop-index.invariant.meets c.in_ok-meet_at.ensures.meets;
  asks = asks_line c.args.registry.now.packages c.args.version.0 c.args.version.1 c.loop-index.index c.args.is_chosen c.args.self.now.asked.items c.loop-index.self.asked.items c.meet_at.new.self.asked.items c.loop-index.invariant.asks
      c.in_ok-meet_at.ensures.asks;
  grown = grown_both c.args.self.now c.loop-index.self c.meet_at.new.self c.loop-index.invariant.grown c.in_ok-meet_at.ensures.grown;
}

pub returns-clause-asks : goal.returns-clause-asks
returns-clause-asks c = λ whole.
    let packages = c.args.registry.now.packages in
    let lines = needs_of packages c.args.version.0 c.args.version.1 in
    let all : length lines ≤ c.loop-index.index = omega (arith, c.needs_count-count.ensures, c.loop-index-test.false) in
    asks_all packages lines c.loop-index.index c.args.is_chosen c.args.self.now.asked.items c.loop-index.self.asked.items all c.loop-index.invariant.asks
