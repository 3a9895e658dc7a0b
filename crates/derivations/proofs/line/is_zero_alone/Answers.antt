use Rattle.std.proofs.Common.{◌∙◌, sym}
use Rattle.derivations.proofs.Published.{zero_alone_iff}
use Rattle.derivations.proofs.line.is_zero_alone.Goals as goal

pub returns-then-has : goal.returns-then-has
returns-then-has c = zero_alone_iff c.args.term.now c.in-In.set c.len.result c.in-In.is (sym c.has.ensures ∙ c.if-has.true) c.len.ensures
