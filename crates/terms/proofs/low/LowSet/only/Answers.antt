use Rattle.std.proofs.Common.{◌-◌, ◌∙◌, ap, arith, sym}
use Rattle.std.proofs.lemmas.Nat.{and_le_l}
use Rattle.terms.proofs.LowSets.{low_ordinals, none-low, not-one, only-low, several-low}
use Rattle.terms.proofs.low.LowSet.only.Goals as goal
use Rattle.terms.proofs.low.LowSet.only.Goals.{then-bits-eq0-via-then-bits-eq0, then-bits-eq0-via-else-bits-eq0+then-bits-ne0}

pub returns-then-bits-eq0-clause-none : goal.returns-then-bits-eq0-clause-none
returns-then-bits-eq0-clause-none c = rw (← c.self.view_is) (λ k one. elim c.then-bits-eq0.branch [
  | then-bits-eq0-via-then-bits-eq0 w ↦ not-one k (sym none-low ∙ ap low_ordinals (sym w.if-bits-eq0.true) ∙ one)
  | then-bits-eq0-via-else-bits-eq0+then-bits-ne0 w ↦
      let below = and_le_l c.self.inside.bits (c.self.inside.bits - 1) in
      several-low c.self.inside.bits (omega (arith, w.if-bits-eq0.false)) c.self.invariant (omega (arith, w.if-bits-ne0.true)) (omega (arith, below, c.self.invariant)) k one
])

pub returns-clause-some : goal.returns-clause-some
returns-clause-some c = rw (← c.self.view_is) (only-low c.self.inside.bits (omega (arith, c.if-bits-eq0.false)) c.self.invariant c.if-bits-ne0.false)
