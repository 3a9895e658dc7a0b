use Rattle.std.proofs.Common.{◌∙◌, ap, arith, inl, inr}
use Rattle.std.proofs.lemmas.Bool.{cases_lt, eq-eqb, eqb-true}
use Rattle.terms.proofs.LowSets.{low_ordinals, none-low, some-low}
use Rattle.terms.proofs.low.LowSet.is_empty.Goals as goal

pub returns : goal.returns
returns c = rw (← c.self.view_is) (
  λ yes. ap low_ordinals (eqb-true c.self.inside.bits 0 yes) ∙ none-low,
  λ none. elim (cases_lt 0 c.self.inside.bits) [
    | inl pos ↦ absurd (some-low c.self.inside.bits pos c.self.invariant none)
    | inr zero ↦ eq-eqb c.self.inside.bits 0 (omega (arith, zero))
  ],
)
