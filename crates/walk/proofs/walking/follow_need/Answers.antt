use Rattle.std.proofs.Common.{◌∙◌, ap, arith, length, rules, sym}
use Rattle.std.proofs.lemmas.Result.{on_ok_weaker}
use Rattle.walk.proofs.Lists.{line_read}
use Rattle.walk.proofs.Steps.{line_comes, line_failed, line_passed, line_unnumbered}
use Rattle.walk.proofs.walking.follow_need.Goals as goal

pub bounds-needs-index : goal.bounds-needs-index
bounds-needs-index g c = omega (arith, ap length c.needs.ensures.needs, c.requires.within)

pub returns-in_default-clause-unmet : goal.returns-in_default-clause-unmet
returns-in_default-clause-unmet g c =
    let needs = c.args.request.now.needs in
    let line = c.index-needs-index.result in
    let at = line_read c.needs.result.now needs c.args.index line c.needs.ensures.needs c.requires.within c.index-needs-index.is in
    line_unnumbered c.args.registry.now.packages needs c.args.index line.0 line.1 at (g.C.Chooser.chooses c.args.chooser.now) (sym c.number.ensures ∙ c.in_default.is)

pub returns : goal.returns
returns g c =
    let packages = c.args.registry.now.packages in
    let needs = c.args.request.now.needs in
    let line = c.index-needs-index.result in
    let at = line_read c.needs.result.now needs c.args.index line c.needs.ensures.needs c.requires.within c.index-needs-index.is in
    let numbered = sym c.number.ensures ∙ c.in-Some.is in
    let done = c.follow_to.ensures in
    record {
      follows = done.follows;
      grown = done.grown;
      come = on_ok_weaker c.follow_to.result (line_comes packages needs c.args.index line.0 line.1 at _ numbered _ _) done.comes;
      met = line_passed packages needs c.args.index line.0 line.1 at _ numbered _ _ c.follow_to.result done.passed (λ k post. search rules);
      unmet = line_failed packages needs c.args.index line.0 line.1 at _ numbered _ _ c.follow_to.result done.failed (λ k post. search rules);
    }
