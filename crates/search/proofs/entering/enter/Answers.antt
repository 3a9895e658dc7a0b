use Rattle.std.proofs.Common.{◌<◌, arith, length}
use Rattle.facts.proofs.Entries.{index_within}
use Rattle.facts.specs.Pushing.{extends_on, same_lines}
use Rattle.search.proofs.entering.enter.Goals as goal

pub add_dependency-requires : goal.add_dependency-requires
add_dependency-requires c =
    let lt : c.loop-index.index < length c.facts.result.needs.now = omega (arith, c.loop-index-test.true) in
    index_within c.args.task.now.registry.now.packages c.args.pkg c.args.ordinal _ c.loop-index.index c.facts.ensures lt

pub loop-index-init : goal.loop-index-init
loop-index-init c = same_lines

pub loop-index-preserved : goal.loop-index-preserved
loop-index-preserved c = extends_on c.loop-index.invariant c.in_ok-add_dependency.ensures

pub returns : goal.returns
returns c = c.loop-index.invariant
