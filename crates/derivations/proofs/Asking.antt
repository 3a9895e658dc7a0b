-- Of each ordinal of a set, one by one, something is asked.
use Rattle.std.proofs.Common.{◌≡◌, ◌∙◌, ◌⊎◌, inl, inr, ℕ, List, [], ◌∷◌, refl, sym, ap, subst, Bool, true, false, ◌||◌, true≢false, rules, nat_eq}
use Rattle.std.proofs.lemmas.Bool.{cases_Bool, eqb-true}
use Rattle.terms.specs.Sets.{has}

-- each ordinal is still to be asked, or the answer was yes; and what is to be asked is among them
pub record IsAsked (P : ℕ → Type 0) (all left : List ℕ) : Type 0 where
  pub each : (k : ℕ) → has all k ≡ true → (has left k ≡ true) ⊎ P k
  pub among : (k : ℕ) → has left k ≡ true → has all k ≡ true

module _ (P : ℕ → Type 0) (all : List ℕ) where
  pub asked_none : (left : List ℕ) → left ≡ all → IsAsked P all left
  asked_none left e = record {
    each = λ k h. inl (ap (λ s. has s k) e ∙ h);
    among = λ k h. ap (λ s. has s k) (sym e) ∙ h;
  }

  pub asked_more : (left rest : List ℕ) (x : ℕ) → left ≡ x ∷ rest → P x → IsAsked P all left → IsAsked P all rest
  asked_more left rest x e yes_x a = record {
    each = λ k h. elim (a.each k h) [
      | inl still ↦ elim (cases_Bool (nat_eq x k)) [
        | inl same ↦ inr (subst P (eqb-true x k same) yes_x)
        | inr apart ↦ inl (sym (ap (λ b. b || has rest k) apart) ∙ ap (λ s. has s k) (sym e) ∙ still)
      ]
      | inr yes_k ↦ inr yes_k
    ];
    among = λ k h. a.among k (ap (λ s. has s k) e ∙ later (nat_eq x k) (has rest k) h);
  }
    where
      later : (a b : Bool) → b ≡ true → (a || b) ≡ true
      later true b h = refl
      later false b h = h

  pub asked_all : (left : List ℕ) → left ≡ [] → IsAsked P all left → (k : ℕ) → has all k ≡ true → P k
  asked_all left e a k h = elim (a.each k h) [
    | inl still ↦ absurd (true≢false (sym still ∙ ap (λ s. has s k) e))
    | inr yes_k ↦ yes_k
  ]

  pub asked_one : (left rest : List ℕ) (x : ℕ) → left ≡ x ∷ rest → IsAsked P all left → has all x ≡ true
  asked_one left rest x e a = a.among x (ap (λ s. has s x) e ∙ first (nat_eq x x) (has rest x) itself)
    where
      itself : nat_eq x x ≡ true
      itself = search rules

      first : (a b : Bool) → a ≡ true → (a || b) ≡ true
      first a b h = ap (λ c. c || b) h
