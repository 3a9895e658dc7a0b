-- The numbers of a walk are taken away again.
use Rattle.std.proofs.Common.{◌≡◌, ◌≢◌, ◌∙◌, ◌⊎◌, inl, inr, ℕ, zero, suc, List, [], ◌∷◌, ◌++◌, get_or, sym, ap, subst, arith}
use Rattle.std.proofs.Math.ListN.{set}
use Rattle.std.proofs.lemmas.Bool.{cases_eq}
use Rattle.std.proofs.lemmas.List.{get_or-set_other}
use Rattle.std.proofs.lemmas.List.Elements.{Contains-append_left, Contains-push}
use Rattle.std.specs.Prelude.{Contains}
use Rattle.checker.specs.Cutting.{AreNumberedAt}

-- one more has a number
pub numbered_one : (numbers places : List ℕ) (at number : ℕ) (places' : List ℕ) → AreNumberedAt numbers places → places' ≡ places ++ at ∷ [] → AreNumberedAt (set numbers at number) places'
numbered_one numbers places at number places' each is k = subst (λ all. (get_or (set numbers at number) k 0 ≡ 0) ⊎ Contains all k) (sym is) (elim (cases_eq k at) [
  | inl same ↦ inr (subst (λ x. Contains (places ++ at ∷ []) x) (sym same) (Contains-push places at))
  | inr apart ↦ elim (each k) [
    | inl none ↦ inl (get_or-set_other numbers at k number 0 apart ∙ none)
    | inr among ↦ inr (Contains-append_left places (at ∷ []) k among)
  ]
])

contains_rest : (place : ℕ) (rest : List ℕ) (k : ℕ) → Contains (place ∷ rest) k → (place ≡ k) ⊎ Contains rest k
contains_rest place rest k (zero, lt, is) = inl is
contains_rest place rest k (suc i, lt, is) = inr (i, omega (arith, lt), is)

-- one less has a number
pub numbered_less : (numbers : List ℕ) (place : ℕ) (rest numbers' : List ℕ) → AreNumberedAt numbers (place ∷ rest) → get_or numbers' place 0 ≡ 0
    → ((k : ℕ) → k ≢ place → get_or numbers' k 0 ≡ get_or numbers k 0) → AreNumberedAt numbers' rest
numbered_less numbers place rest numbers' each here others k = elim (cases_eq k place) [
  | inl same ↦ inl (ap (λ x. get_or numbers' x 0) same ∙ here)
  | inr apart ↦ elim (each k) [
    | inl none ↦ inl (others k apart ∙ none)
    | inr among ↦ elim (contains_rest place rest k among) [
      | inl is ↦ absurd (apart (sym is))
      | inr left ↦ inr left
    ]
  ]
]

-- none has
pub numbered_none : (numbers places : List ℕ) → places ≡ [] → AreNumberedAt numbers places → (k : ℕ) → get_or numbers k 0 ≡ 0
numbered_none numbers places none each k = elim (subst (λ all. (get_or numbers k 0 ≡ 0) ⊎ Contains all k) none (each k)) [
  | inl is ↦ is
  | inr (i, lt, is) ↦ absurd (omega (arith, lt))
]
