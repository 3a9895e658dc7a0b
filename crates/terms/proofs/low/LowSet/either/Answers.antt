use Rattle.std.proofs.lemmas.Nat.{or_lt}
use Rattle.terms.proofs.LowSets.{kept-low}
use Rattle.terms.specs.declared.merging.Rule.TheVariants as rule
use Rattle.terms.proofs.low.LowSet.either.Goals as goal

pub invariant_of-result : goal.invariant_of-result
invariant_of-result c = or_lt 64 c.self.inside.bits c.other.inside.bits c.self.invariant c.other.invariant

pub returns : goal.returns
returns c = rw (← c.self.view_is, ← c.other.view_is) (kept-low rule.Either c.self.inside.bits c.other.inside.bits c.other.invariant)
