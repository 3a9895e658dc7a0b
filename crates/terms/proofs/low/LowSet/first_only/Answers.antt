use Rattle.terms.proofs.LowSets.{kept-low}
use Rattle.terms.specs.declared.merging.Rule.TheVariants as rule
use Rattle.terms.proofs.low.LowSet.first_only.Goals as goal

pub returns : goal.returns
returns c = rw (← c.self.view_is, ← c.other.view_is) (kept-low rule.FirstOnly c.self.inside.bits c.other.inside.bits c.other.invariant)
