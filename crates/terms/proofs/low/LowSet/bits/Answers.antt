use Rattle.std.proofs.Common.{sym}
use Rattle.terms.proofs.LowSets.{has-low}
use Rattle.terms.proofs.low.LowSet.bits.Goals as goal

pub returns : goal.returns
returns c = rw (← c.self.view_is) (λ k lt. sym (has-low c.self.inside.bits k lt))
