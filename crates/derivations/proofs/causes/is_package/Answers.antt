use Rattle.derivations.proofs.Published.{numbered_iff, unnumbered_iff}
use Rattle.derivations.proofs.causes.is_package.Goals as goal

pub returns-then-pkg-ge1 : goal.returns-then-pkg-ge1
returns-then-pkg-ge1 c = numbered_iff c.args.registry.now.packages c.args.pkg c.packages.result c.if-pkg-ge1.true c.packages.ensures.packages

pub returns-else-pkg-ge1 : goal.returns-else-pkg-ge1
returns-else-pkg-ge1 c = unnumbered_iff c.args.registry.now.packages c.args.pkg c.if-pkg-ge1.false
