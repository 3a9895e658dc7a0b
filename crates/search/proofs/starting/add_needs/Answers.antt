use Rattle.facts.specs.Pushing.{extends_on, same_lines}
use Rattle.search.proofs.starting.add_needs.Goals as goal

pub loop-index-init : goal.loop-index-init
loop-index-init c = same_lines

pub loop-index-preserved : goal.loop-index-preserved
loop-index-preserved c = extends_on c.loop-index.invariant c.in_ok-at.ensures.extends

pub returns : goal.returns
returns c = c.loop-index.invariant
