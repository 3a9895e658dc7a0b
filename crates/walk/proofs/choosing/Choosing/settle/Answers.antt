use Rattle.std.proofs.Common.{◌∙◌, ap, rules}
use Rattle.walk.proofs.Bests.{grown_after, grown_both, holds_same}
use Rattle.walk.proofs.choosing.Choosing.settle.Goals as goal

pub returns-in_default-clause-holds : goal.returns-in_default-clause-holds
returns-in_default-clause-holds c = λ wanted h.
    let same = c.next_open.ensures.same in
    holds_same c.args.registry.now.packages wanted c.loop.self c.next_open.new.self same.0 same.2 same.3 (c.loop.invariant.holds wanted h)

pub returns-then-not-branch-2-clause-holds : goal.returns-then-not-branch-2-clause-holds
returns-then-not-branch-2-clause-holds c = λ wanted h.
    let same = c.next_open.ensures.same in
    c.in_ok-look_back.ensures.holds wanted (holds_same c.args.registry.now.packages wanted c.loop.self c.next_open.new.self same.0 same.2 same.3 (c.loop.invariant.holds wanted h))

pub returns-then-not-branch-3-clause-holds : goal.returns-then-not-branch-3-clause-holds
returns-then-not-branch-3-clause-holds c = λ wanted h.
    let same = c.next_open.ensures.same in
    c.in_ok-meet_alike-2.ensures.holds wanted
    (c.in_ok-look_back.ensures.holds wanted (holds_same c.args.registry.now.packages wanted c.loop.self c.next_open.new.self same.0 same.2 same.3 (c.loop.invariant.holds wanted h)))

pub loop-preserved : goal.loop-preserved
loop-preserved c =
    let same = c.next_open.ensures.same in
    let mid = c.next_open.new.self in
    record {
      found = c.in_ok-meet_alike-2.ensures.found ∙ c.in_ok-look_back.ensures.found ∙ same.0 ∙ c.loop.invariant.found;
      asked = c.in_ok-meet_alike-2.ensures.asked (search rules) ∙ c.in_ok-look_back.ensures.asked (search rules) ∙ ap (λ v. v.items) same.1 ∙ c.loop.invariant.asked;
      grown = grown_after c.args.self.now c.loop.self mid c.meet_alike-in-loop.new.self c.loop.invariant.grown same.1 same.2
          (grown_both mid c.look_back.new.self c.meet_alike-in-loop.new.self c.in_ok-look_back.ensures.grown c.in_ok-meet_alike-2.ensures.grown);
      holds = λ wanted h.
          c.in_ok-meet_alike-2.ensures.holds wanted
          (c.in_ok-look_back.ensures.holds wanted (holds_same c.args.registry.now.packages wanted c.loop.self mid same.0 same.2 same.3 (c.loop.invariant.holds wanted h)));
    }
