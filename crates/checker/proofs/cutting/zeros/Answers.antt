use Rattle.std.proofs.Common.{◌≡◌, ◌∙◌, ◌++◌, ℕ, zero, suc, List, [], ◌∷◌, ap, arith, get_or, length, length-append, refl}
use Rattle.checker.proofs.cutting.zeros.Goals as goal

zero_more : (zeros : List ℕ) (k : ℕ) → get_or zeros k 0 ≡ 0 → get_or (zeros ++ 0 ∷ []) k 0 ≡ 0
zero_more [] zero e = refl
zero_more [] (suc k) e = refl
zero_more (x ∷ zeros) zero e = e
zero_more (x ∷ zeros) (suc k) e = zero_more zeros k e

pub fill-init : goal.fill-init
fill-init c = record { size = omega (arith, ap length c.in_ok-list.ensures.items); zeros = λ k. ap (λ (list : List ℕ). get_or list k 0) c.in_ok-list.ensures.items }

pub fill-preserved : goal.fill-preserved
fill-preserved c =
    let list = c.fill.list.items in
    record {
      size = omega (arith, ap length c.in_ok-push.ensures.items, length-append list (0 ∷ []), c.fill-test.true, c.len.ensures, c.fill.list.ok.0);
      zeros = λ k. ap (λ (list : List ℕ). get_or list k 0) c.in_ok-push.ensures.items ∙ zero_more list k (c.fill.invariant.zeros k);
    }

pub returns-clause-length : goal.returns-clause-length
returns-clause-length c = omega (arith, c.fill.invariant.size, c.fill-test.false, c.len.ensures, c.fill.list.ok.0)
