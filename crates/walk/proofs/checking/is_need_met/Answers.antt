use Rattle.std.proofs.Common.{◌∙◌, ap, arith, length, sym}
use Rattle.walk.specs.Choosing.{choice_of}
use Rattle.walk.proofs.Lists.{line_read}
use Rattle.walk.proofs.Steps.{line_met}
use Rattle.walk.proofs.checking.is_need_met.Goals as goal

pub bounds-needs-index : goal.bounds-needs-index
bounds-needs-index c = omega (arith, ap length c.needs.ensures.needs, c.requires)

pub returns-in-Some-get : goal.returns-in-Some-get
returns-in-Some-get c = λ yes.
    let needs = c.args.request.now.needs in
    let line = c.index-needs-index.result in
    let at = line_read c.needs.result.now needs c.args.index line c.needs.ensures.needs c.requires c.index-needs-index.is in
    line_met c.args.registry.now.packages needs c.args.index line.0 line.1 at c.in-Some.target c.in-Some-get.ordinal (choice_of c.args.found.now.entries) (sym c.number.ensures ∙ c.in-Some.is) (sym c.get.ensures ∙ c.in-Some-get.is) (sym c.meets.ensures ∙ yes)
