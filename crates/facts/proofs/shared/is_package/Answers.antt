use Rattle.facts.proofs.Numbering.{numbered_below}
use Rattle.facts.proofs.shared.is_package.Goals as goal

pub returns-then-pkg-ge1 : goal.returns-then-pkg-ge1
returns-then-pkg-ge1 c h = numbered_below c.args.task.now.registry.now.packages c.args.pkg c.packages.result c.if-pkg-ge1.true c.packages.ensures.packages h
