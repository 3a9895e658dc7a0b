use Rattle.std.proofs.Common.{◌≡◌, ◌<◌, ◌∙◌, ℕ, zero, suc, List, [], ◌∷◌, ap, arith, length, refl, sym, true≢false}
use Rattle.std.proofs.lemmas.Bool.{eq-eqb}
use Rattle.std.proofs.Math.ListN.{set, length-set}
use Rattle.std.specs.Prelude.{Option, Some, slice_get}
use Rattle.search.proofs.trail.enter.Goals as goal

-- what was set is there
get-set_own : (xs : List (Option ℕ)) (i : ℕ) (x : Option ℕ) → i < length xs → slice_get (set xs i x) i ≡ Some x
get-set_own [] i x within = absurd (omega (arith, within))
get-set_own (y ∷ ys) zero x within = refl
get-set_own (y ∷ ys) (suc i) x within = get-set_own ys i x (omega (arith, within))

-- and elsewhere is what was there
get-set_other : (xs : List (Option ℕ)) (i j : ℕ) (x : Option ℕ) → (i ≡ j → ⊥) → slice_get (set xs i x) j ≡ slice_get xs j
get-set_other [] i j x apart = refl
get-set_other (y ∷ ys) zero zero x apart = absurd (apart refl)
get-set_other (y ∷ ys) zero (suc j) x apart = refl
get-set_other (y ∷ ys) (suc i) zero x apart = refl
get-set_other (y ∷ ys) (suc i) (suc j) x apart = get-set_other ys i j x (λ same. apart (ap suc same))

pub returns-clause-own : goal.returns-clause-own
returns-clause-own c = get-set_own c.args.heads.now.items c.args.pkg c.args.place c.requires

pub returns-clause-other : goal.returns-clause-other
returns-clause-other c = λ q apart.
    get-set_other c.args.heads.now.items c.args.pkg q c.args.place (λ same. true≢false (sym (eq-eqb c.args.pkg q same) ∙ apart))

pub returns-clause-len : goal.returns-clause-len
returns-clause-len c = length-set c.args.heads.now.items c.args.pkg c.args.place
