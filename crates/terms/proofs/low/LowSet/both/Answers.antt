use Rattle.terms.proofs.LowSets.{kept-low}
use Rattle.terms.specs.declared.merging.Rule.TheVariants as rule
use Rattle.terms.proofs.low.LowSet.both.Goals as goal

pub returns : goal.returns
returns c = rw (← c.self.view_is, ← c.other.view_is) (kept-low rule.Both c.self.inside.bits c.other.inside.bits c.other.invariant)
