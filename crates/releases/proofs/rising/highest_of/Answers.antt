use Rattle.std.proofs.Common.{◌≡◌, ◌-◌, arith, false, get_or, inl, inr, refl, subst}
use Rattle.std.proofs.lemmas.Bool.{cases_lt}
use Rattle.releases.proofs.rising.highest_of.Goals as goal

pub returns-then-passes-clause-some : goal.returns-then-passes-clause-some
returns-then-passes-clause-some g c = (c.walk.left - 1, omega arith, refl, c.if-passes.ensures, λ j above within. c.walk.invariant.1 j (omega arith) within)

pub walk-preserved : goal.walk-preserved
walk-preserved g c = (
  omega arith,
  λ j from within. elim (cases_lt j c.walk.left) [
    | inl here ↦
        let same : c.walk.left - 1 ≡ j = omega arith in
        subst (λ n. goal.F-post g c.args.passes (get_or c.args.rising.now n 0) false) same c.if-passes.ensures
    | inr later ↦ c.walk.invariant.1 j later within
  ],
)

pub returns-clause-none : goal.returns-clause-none
returns-clause-none g c = λ j within. c.walk.invariant.1 j (omega arith) within
