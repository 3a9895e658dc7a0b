use Rattle.std.proofs.Common.{◌∙◌, ap, arith, length, sym}
use Rattle.walk.proofs.Bests.{holds_same, is_of-true, need_of}
use Rattle.walk.proofs.Lists.{get-contains, line_read}
use Rattle.walk.proofs.choosing.Choosing.meet_need.Goals as goal

pub bounds-needs-index : goal.bounds-needs-index
bounds-needs-index c = omega (arith, ap length c.needs.ensures.needs, c.requires.within)

pub returns-clause-asks : goal.returns-clause-asks
returns-clause-asks c = λ whole.
    let needs = c.args.request.now.needs in
    let line = c.index-needs-index.result in
    let at = line_read c.needs.result.now needs c.args.index line c.needs.ensures.needs c.requires.within c.index-needs-index.is in
    (line, c.in-Some.target, at, sym c.number.ensures ∙ c.in-Some.is, c.in_ok-narrow.ensures.asked ∙ c.in_ok-ask.ensures.asks)

pub returns-clause-holds : goal.returns-clause-holds
returns-clause-holds c =
    let packages = c.args.registry.now.packages in
    let wanted = c.args.request.now in
    let line = c.index-needs-index.result in
    let at = line_read c.needs.result.now wanted.needs c.args.index line c.needs.ensures.needs c.requires.within c.index-needs-index.is in
    c.in_ok-narrow.ensures.holds packages wanted
    (λ u meets has. is_of-true _ (u c.in-Some.target)
    (need_of packages wanted c.ask.new.self.found.entries line.0 line.1 c.in-Some.target _ (get-contains wanted.needs c.args.index line at) (sym c.number.ensures ∙ c.in-Some.is) c.in_ok-matching.ensures u meets has))
    (holds_same packages wanted c.args.self.now c.ask.new.self c.in_ok-ask.ensures.same.0 c.in_ok-ask.ensures.same.1 c.in_ok-ask.ensures.same.2 c.requires.holds)
