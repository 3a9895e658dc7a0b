use Rattle.std.proofs.Common.{rules}
use Rattle.checker.proofs.Ruling.{earlier-with, own-with, root-with}
use Rattle.checker.proofs.by_chains.chosen_with.Goals as goal

pub returns-then-on-eq-ROOT : goal.returns-then-on-eq-ROOT
returns-then-on-eq-ROOT c = root-with c.args.before.now.entries c.args.pkg c.args.ordinal c.args.on c.if-on-eq-ROOT.true

pub returns-then-on-pkg : goal.returns-then-on-pkg
returns-then-on-pkg c = own-with c.args.before.now.entries c.args.pkg c.args.ordinal c.args.on c.if-on-eq-ROOT.false c.if-on-pkg.true

pub returns : goal.returns
returns c = earlier-with c.args.before.now.entries c.args.pkg c.args.ordinal c.args.on c.if-on-eq-ROOT.false c.get.result (search rules)
