use Rattle.std.proofs.Common.{sym}
use Rattle.terms.proofs.LowSets.{has-below, has-low}
use Rattle.terms.proofs.low.LowSet.of_bits.Goals as goal

pub returns-clause-bits : goal.returns-clause-bits
returns-clause-bits c = rw c.from_bits.ensures (λ k lt. sym (has-low c.args.bits k lt))

pub returns-clause-low : goal.returns-clause-low
returns-clause-low c = rw c.from_bits.ensures (λ k there. has-below c.args.bits k there)
