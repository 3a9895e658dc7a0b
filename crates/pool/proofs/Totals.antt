-- How a sum over the hands changes when one hand does, and what the hand with every part knows of it.
use Rattle.std.proofs.Common.{◌≡◌, ◌≢◌, false, ℕ, zero, suc, ◌+◌, ◌≤◌, List, [], ◌∷◌, ◌++◌, set, sym, refl, ap, ◌∙◌, subst, ⊎_elim, arith}
use mathlib.Core.Option.{some, some-injective, some-ne-none}
use lib.ListN.{get_elem?}
use Rattle.crossbeam_queue.proofs.Lists.{at_set, at_snoc, set_else}
use Rattle.pool.specs.declared.rule.Hand.{Hand}
use Rattle.pool.specs.Hands.{hand}
use Rattle.pool.specs.Sharing.{total}

pub total_set : (f : Hand → ℕ) (views : List Hand) (port : ℕ) (v w : Hand) → get_elem? views port ≡ some v → total f (set views port w) + f v ≡ total f views + f w
total_set f [] port v w e = absurd (some-ne-none v (sym e))
total_set f (x ∷ xs) zero v w e = let q : f x ≡ f v = ap f (some-injective x v e) in omega arith
total_set f (x ∷ xs) (suc port) v w e = let i = total_set f xs port v w e in omega arith

pub total_push : (f : Hand → ℕ) (views : List Hand) (w : Hand) → total f (views ++ w ∷ []) ≡ total f views + f w
total_push f [] w = omega arith
total_push f (x ∷ xs) w = let i = total_push f xs w in omega arith

pub total_at : (f : Hand → ℕ) (views : List Hand) (port : ℕ) (v : Hand) → get_elem? views port ≡ some v → f v ≤ total f views
total_at f [] port v e = absurd (some-ne-none v (sym e))
total_at f (x ∷ xs) zero v e = let q : f x ≡ f v = ap f (some-injective x v e) in omega arith
total_at f (x ∷ xs) (suc port) v e = let i = total_at f xs port v e in omega arith

-- f counts nothing where p does not
abbrev pub IsWithin : (Hand → ℕ) → (Hand → ℕ) → List Hand → Type 0
IsWithin f p views = (port : ℕ) (u : Hand) → get_elem? views port ≡ some u → p u ≡ 0 → f u ≡ 0

pub total_none : (f p : Hand → ℕ) (views : List Hand) → IsWithin f p views → total p views ≡ 0 → total f views ≡ 0
total_none f p [] within e = refl
total_none f p (x ∷ xs) within e =
    let here : f x ≡ 0 = within 0 x refl (omega arith) in
    let there : total f xs ≡ 0 = total_none f p xs (λ port u. within (suc port) u) (omega arith) in omega arith

pub total_only : (f p : Hand → ℕ) (views : List Hand) (port : ℕ) (v : Hand) → get_elem? views port ≡ some v → IsWithin f p views → total p views ≡ p v → total f views ≡ f v
total_only f p [] port v at within e = absurd (some-ne-none v (sym at))
total_only f p (x ∷ xs) zero v at within e =
    let q : f x ≡ f v = ap f (some-injective x v at) in let r : p x ≡ p v = ap p (some-injective x v at) in
    let there : total f xs ≡ 0 = total_none f p xs (λ port u. within (suc port) u) (omega arith) in omega arith
total_only f p (x ∷ xs) (suc port) v at within e =
    let least = total_at p xs port v at in
    let here : f x ≡ 0 = within 0 x refl (omega arith) in
    let there : total f xs ≡ f v = total_only f p xs port v at (λ port u. within (suc port) u) (omega arith) in omega arith

-- F holds of each hand, with its port
abbrev pub AllAt : (ℕ → Hand → Type 0) → List Hand → Type 0
AllAt F views = (port : ℕ) (v : Hand) → get_elem? views port ≡ some v → F port v

pub all_set : (F : ℕ → Hand → Type 0) (views : List Hand) (port : ℕ) (w : Hand) → F port w → ((j : ℕ) (u : Hand) → j ≢ port → get_elem? views j ≡ some u → F j u) → AllAt F (set views port w)
all_set F views port w mine others j u e = ⊎_elim (λ (x : (j ≡ port) × (w ≡ u)). subst (λ (y : ℕ × Hand). F y.0 y.1) (λ i. (sym x.0 i, x.1 i)) mine)
    (λ (x : (j ≢ port) × (get_elem? views j ≡ some u)). others j u x.0 x.1) (at_set views port j w u e)

pub all_push : (F : ℕ → Hand → Type 0) (views : List Hand) (w : Hand) → ((j : ℕ) → F j w) → AllAt F views → AllAt F (views ++ w ∷ [])
all_push F views w mine others j u e = ⊎_elim (λ x. others j u x) (λ (is : w ≡ u). subst (λ (y : Hand). F j y) is (mine j)) (at_snoc views w u j e)

-- where one hand has every part, another has none
pub others_none : (views : List Hand) (port j : ℕ) (v u : Hand) → get_elem? views port ≡ some v → j ≢ port → get_elem? views j ≡ some u → total (λ w. w.parts) views ≡ v.parts → u.parts ≡ 0
others_none views port j v u at other there whole =
    let w : Hand = hand 0 0 0 false 0 [] in
    let t = total_set (λ x. x.parts) views port v w at in
    let l = total_at (λ x. x.parts) (set views port w) j u (set_else views port j w other ∙ there) in omega arith
