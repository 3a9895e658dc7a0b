-- The answers to the first requests.
use Rattle.std.proofs.Common.{◌≡◌, ℕ, zero, suc, ◌<◌, List, [], ◌∷◌, ◌++◌, Global, Result, Some, Vec, length, take, vec_capacity, vec_len, refl, sym, subst, arith}
use Rattle.std.specs.Prelude.{slice_get}
use Rattle.std.specs.List.{AllZip}
use Rattle.versions.specs.declared.refusal.Refusal.{Refusal}
use Rattle.registry.specs.Registry.{Packages}
use Rattle.registry.specs.Requests.{Wanted}
use Rattle.solver.specs.declared.outcome.Outcome.{Outcome}
use Rattle.oracle.specs.declared.options.Options.{Options}
use Rattle.pool.specs.Answering.{AreAnswers, AreBegun, IsAnswerAt, IsAnswerTo}

-- ---- two lists side by side

module _ {A B : Type 0} (R : A → B → Type 0) where
  -- R holds of the element of xs at i, if there is one
  abbrev pub At : List A → ℕ → B → Type 0
  At xs i y = (x : A) → slice_get xs i ≡ Some x → R x y

  pub zip_more : (xs : List A) (k : ℕ) (ys : List B) (y : B) → AllZip R (take k xs) ys → k < length xs → At xs k y → AllZip R (take (suc k) xs) (ys ++ y ∷ [])
  zip_more [] k ys y z l r = absurd (omega arith)
  zip_more (x ∷ xs) zero [] y z l r = (r x refl, z)
  zip_more (x ∷ xs) zero (b ∷ ys) y z l r = absurd z
  zip_more (x ∷ xs) (suc k) [] y z l r = absurd z
  zip_more (x ∷ xs) (suc k) (b ∷ ys) y z l r = (z.0, zip_more xs k ys y z.1 (omega arith) r)

-- ---- answers that came

-- one answer more
pub begun_more : (packages : Packages) (asked : List (Wanted × Options)) (answers answers' : Vec (Result Outcome Refusal) Global) (answer : Result Outcome Refusal) → AreBegun packages asked answers
    → vec_len answers < length asked → IsAnswerAt packages asked (vec_len answers) answer
    → answers'.items ≡ answers.items ++ answer ∷ [] → suc (vec_len answers) ≡ vec_len answers' → vec_capacity answers' ≡ vec_capacity answers → AreBegun packages asked answers'
begun_more packages asked answers answers' answer begun inside here items longer capacity = record {
  done = subst (λ (x : ℕ × List (Result Outcome Refusal)). AreAnswers packages (take x.0 asked) x.1) (λ i. (longer i, sym items i))
      (zip_more (IsAnswerTo packages) asked (vec_len answers) answers.items answer begun.done inside here);
  fits = omega arith;
  room = let r = begun.room in omega arith;
}
