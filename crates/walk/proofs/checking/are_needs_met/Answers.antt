use Rattle.std.proofs.Common.{◌≤◌, ap, arith, length, rules}
use Rattle.walk.specs.Choosing.{choice_of}
use Rattle.walk.proofs.Checked.{met_next}
use Rattle.walk.proofs.Steps.{met_all}
use Rattle.walk.proofs.checking.are_needs_met.Goals as goal

pub loop-index-preserved : goal.loop-index-preserved
loop-index-preserved c = met_next c.args.registry.now.packages c.args.found.now.entries c.args.request.now.needs c.loop-index.index c.loop-index.invariant (c.is_need_met.ensures (search rules))

pub returns : goal.returns
returns c = λ yes.
    let needs = c.args.request.now.needs in
    let all : length needs ≤ c.loop-index.index = omega (arith, ap length c.needs-count.ensures.needs, c.loop-index-test.false) in
    met_all c.args.registry.now.packages (choice_of c.args.found.now.entries) needs c.loop-index.index all c.loop-index.invariant
