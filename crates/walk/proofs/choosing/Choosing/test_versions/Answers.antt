use Rattle.std.proofs.Common.{◌∙◌, ap, rules}
use Rattle.walk.proofs.Bests.{grown_after, grown_of, holds_same}
use Rattle.walk.proofs.choosing.Choosing.test_versions.Goals as goal

pub returns-in_default-clause-holds : goal.returns-in_default-clause-holds
returns-in_default-clause-holds c = λ wanted h.
    let same = c.look_in.ensures in
    holds_same c.args.registry.now.packages wanted c.loop.self c.look_in.new.self same.0 same.2 same.3 (c.loop.invariant.holds wanted h)

pub returns-then-not-branch-clause-holds : goal.returns-then-not-branch-clause-holds
returns-then-not-branch-clause-holds c = λ wanted h.
    let same = c.look_in.ensures in
    c.in_ok-test_line.ensures.holds wanted (holds_same c.args.registry.now.packages wanted c.loop.self c.look_in.new.self same.0 same.2 same.3 (c.loop.invariant.holds wanted h))

pub loop-preserved : goal.loop-preserved
loop-preserved c =
    let same = c.look_in.ensures in
    let mid = c.look_in.new.self in
    record {
      found = c.in_ok-test_line.ensures.found ∙ same.0 ∙ c.loop.invariant.found;
      asked = c.in_ok-test_line.ensures.asked (search rules) ∙ ap (λ v. v.items) same.1 ∙ c.loop.invariant.asked;
      grown = grown_after c.args.self.now c.loop.self mid c.test_line.new.self c.loop.invariant.grown same.1 same.2 c.in_ok-test_line.ensures.grown;
      holds = λ wanted h. c.in_ok-test_line.ensures.holds wanted (holds_same c.args.registry.now.packages wanted c.loop.self mid same.0 same.2 same.3 (c.loop.invariant.holds wanted h));
    }

pub loop-init : goal.loop-init
loop-init c =
    let same = c.list.ensures in
    let new = c.list.new.self in
    record {
      found = same.0;
      asked = ap (λ v. v.items) same.1;
      grown = grown_of c.args.self.now new same.1 same.2;
      holds = λ wanted h. holds_same c.args.registry.now.packages wanted c.args.self.now new same.0 same.2 same.3 h;
    }
