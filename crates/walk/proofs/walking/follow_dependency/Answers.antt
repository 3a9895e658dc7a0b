use Rattle.std.proofs.Common.{rules}
use Rattle.std.proofs.lemmas.Result.{on_ok_weaker}
use Rattle.walk.proofs.Steps.{line_comes, line_failed, line_passed}
use Rattle.walk.proofs.walking.follow_dependency.Goals as goal

pub returns-in-Some : goal.returns-in-Some
returns-in-Some g c =
    let packages = c.args.registry.now.packages in
    let d = c.in-Some.ensures in
    let done = c.follow_to.ensures in
    record {
      follows = done.follows;
      grown = done.grown;
      come = on_ok_weaker c.follow_to.result (line_comes packages _ c.args.index d.name d.need d.at _ d.number _ _) done.comes;
      met = line_passed packages _ c.args.index d.name d.need d.at _ d.number _ _ c.follow_to.result done.passed (λ k post. let member = d.members k in search rules);
      unmet = line_failed packages _ c.args.index d.name d.need d.at _ d.number _ _ c.follow_to.result done.failed (λ k post. let member = d.members k in search rules);
    }

pub returns : goal.returns
returns g c =
    let packages = c.args.registry.now.packages in
    let d = c.in_ok-target.ensures in
    let done = c.follow_to-2.ensures in
    record {
      follows = done.follows;
      grown = done.grown;
      come = on_ok_weaker c.follow_to-2.result (line_comes packages _ c.args.index d.name d.need d.at _ d.number _ _) done.comes;
      met = line_passed packages _ c.args.index d.name d.need d.at _ d.number _ _ c.follow_to-2.result done.passed (λ k post. let member = d.members k in search rules);
      unmet = line_failed packages _ c.args.index d.name d.need d.at _ d.number _ _ c.follow_to-2.result done.failed (λ k post. let member = d.members k in search rules);
    }
