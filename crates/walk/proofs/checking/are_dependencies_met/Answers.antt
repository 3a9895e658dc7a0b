use Rattle.std.proofs.Common.{◌≤◌, arith, length, rules}
use Rattle.registry.specs.Registry.{needs_of}
use Rattle.walk.specs.Choosing.{choice_of}
use Rattle.walk.proofs.Checked.{met_next}
use Rattle.walk.proofs.Steps.{met_all}
use Rattle.walk.proofs.checking.are_dependencies_met.Goals as goal

pub loop-index-preserved : goal.loop-index-preserved
loop-index-preserved c =
    let packages = c.args.registry.now.packages in
    let lines = needs_of packages c.args.version.0 c.args.version.1 in
    met_next packages c.args.found.now.entries lines c.loop-index.index c.loop-index.invariant (c.in_ok-is_dependency_met.ensures (search rules))

pub returns : goal.returns
returns c = λ yes.
    let packages = c.args.registry.now.packages in
    let lines = needs_of packages c.args.version.0 c.args.version.1 in
    let all : length lines ≤ c.loop-index.index = omega (arith, c.needs_count-count.ensures, c.loop-index-test.false) in
    met_all packages (choice_of c.args.found.now.entries) lines c.loop-index.index all c.loop-index.invariant
