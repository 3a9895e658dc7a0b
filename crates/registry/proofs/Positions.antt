-- The place of the first element that passes a test.
use Rattle.std.proofs.Common.{◌≡◌, ◌<◌, ◌≤◌, ◌∙◌, inl, inr, ℕ, suc, ◌+◌, List, [], ◌∷◌, length, refl, sym, ap, arith, Bool, true, false, rules, nat_lt, cond}
use Rattle.std.specs.Prelude.{Option, Some, None, is_some, position}
use Rattle.std.specs.Option.{option_map}
use Rattle.std.specs.List.{list_any, position_or_len}
use Rattle.std.proofs.lemmas.Bool.{cases_Bool}

pick-zero : (len : ℕ) → cond {A = Option ℕ} (nat_lt 0 (suc len)) (Some 0) None ≡ Some 0
pick-zero len = let lt : nat_lt 0 (suc len) ≡ true = search rules in ap (λ b. cond {A = Option ℕ} b (Some 0) None) lt

pick-suc : (n len : ℕ) → cond (nat_lt (1 + n) (suc len)) (Some (1 + n)) None ≡ option_map suc (cond (nat_lt n len) (Some n) None)
pick-suc n len =
    let next : 1 + n ≡ suc n = omega arith in
    elim (cases_Bool (nat_lt n len)) [
      | inl t ↦
          let lt : n < len = search rules in
          let below : 1 + n < suc len = omega (arith, lt) in
          let more : nat_lt (1 + n) (suc len) ≡ true = search rules in
          ap (λ b. cond b (Some (1 + n)) None) more ∙ ap (λ i. Some i) next ∙ sym (ap (λ b. option_map suc (cond b (Some n) None)) t)
      | inr f ↦
          let le : len ≤ n = search rules in
          let above : suc len ≤ 1 + n = omega (arith, le) in
          let more : nat_lt (1 + n) (suc len) ≡ false = search rules in
          ap (λ b. cond b (Some (1 + n)) None) more ∙ sym (ap (λ b. option_map suc (cond b (Some n) None)) f)
    ]

module _ {A : Type 0} (p : A → Bool) where
  pub position-here : (x : A) (xs : List A) → p x ≡ true → position p (x ∷ xs) ≡ Some 0
  position-here x xs e = rw e (pick-zero (length xs))

  pub position-later : (x : A) (xs : List A) → p x ≡ false → position p (x ∷ xs) ≡ option_map suc (position p xs)
  position-later x xs e = rw e (pick-suc (position_or_len p xs) (length xs))

  -- some element passes where there is a first one that does
  pub list_any-position : (xs : List A) → list_any p xs ≡ is_some (position p xs)
  list_any-position [] = refl
  list_any-position (x ∷ xs) = elim (cases_Bool (p x)) [
    | inl t ↦ rw (position-here x xs t, t) refl
    | inr f ↦ rw (position-later x xs f, f) (list_any-position xs ∙ by (position p xs))
  ]
    where
      by : (o : Option ℕ) → is_some o ≡ is_some (option_map suc o)
      by None = refl
      by (Some i) = refl
