use Rattle.std.proofs.Common.{◌≡◌, ◌∙◌, ◌++◌, ℕ, zero, suc, List, [], ◌∷◌, ap, arith, length, length-append, refl}
use Rattle.std.specs.Option.{option_flatten}
use Rattle.std.specs.Prelude.{Option, None, slice_get}
use Rattle.search.proofs.trail.reach.Goals as goal

-- a head with no place says the same as none
flatten-push : (heads : List (Option ℕ)) (p : ℕ) → option_flatten (slice_get (heads ++ None ∷ []) p) ≡ option_flatten (slice_get heads p)
flatten-push [] zero = refl
flatten-push [] (suc p) = refl
flatten-push (x ∷ heads) zero = refl
flatten-push (x ∷ heads) (suc p) = flatten-push heads p

pub heads-init : goal.heads-init
heads-init c = record { same = λ _. refl; few = λ few. few }

pub heads-preserved : goal.heads-preserved
heads-preserved c = record {
  same = λ p. ap (λ (heads : List (Option ℕ)). option_flatten (slice_get heads p)) c.in_ok-push.ensures.items ∙ flatten-push c.heads.heads.items p ∙ c.heads.invariant.same p;
  few = λ _. omega (arith, ap length c.in_ok-push.ensures.items, length-append c.heads.heads.items (None ∷ []), c.heads.heads.ok.0);
}

pub returns : goal.returns
returns c = record { same = c.heads.invariant.same; few = c.heads.invariant.few; reached = omega (arith, c.heads.heads.ok.0) }
