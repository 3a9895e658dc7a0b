-- Counts, sums and numbers written in a base.
use Rattle.std.proofs.Common.{◌≡◌, ◌<◌, ◌≤◌, ◌+◌, ◌*◌, ◌∙◌, ℕ, zero, suc, refl, sym, ap, arith, Bool, true, false, inl, inr, rules}
use Rattle.std.proofs.lemmas.Bool.{cases_eq}
use Rattle.std.specs.Prelude.{Option, None, Some}
use Rattle.search.specs.Assignments.{one_if}
use Rattle.search.specs.Rank.{count_below, choices, sum_below, number}

one_le : (b : Bool) → one_if b ≤ 1
one_le true = omega arith
one_le false = omega arith

one_mono : (a b : Bool) → (a ≡ true → b ≡ true) → one_if a ≤ one_if b
one_mono true b h = rw (h refl) (omega arith)
one_mono false b h = omega arith

one_strict : (a b : Bool) → a ≡ false → b ≡ true → one_if a < one_if b
one_strict a b e f = rw (e, f) (omega arith)

pub count-le : (f g : ℕ → Bool) → ((k : ℕ) → f k ≡ true → g k ≡ true) → (n : ℕ) → count_below f n ≤ count_below g n
unfolding count_below
count-le f g h zero = omega arith
count-le f g h (suc n) = omega (arith, count-le f g h n, one_mono (f n) (g n) (h n))

pub count-lt : (f g : ℕ → Bool) → ((k : ℕ) → f k ≡ true → g k ≡ true) → (n k : ℕ) → k < n → f k ≡ false → g k ≡ true → count_below f n < count_below g n
unfolding count_below
count-lt f g h zero k lt e e' = absurd (omega arith)
count-lt f g h (suc n) k lt e e' = elim (cases_eq k n) [
  | inl same ↦
      let s : one_if (f n) < one_if (g n) = one_strict (f n) (g n) (ap f (sym same) ∙ e) (ap g (sym same) ∙ e') in
      omega (arith, s, count-le f g h n)
  | inr apart ↦ omega (arith, count-lt f g h n k (omega (arith, apart)) e e', one_mono (f n) (g n) (h n))
]

pub count-bound : (f : ℕ → Bool) (n : ℕ) → count_below f n ≤ n
unfolding count_below
count-bound f zero = omega arith
count-bound f (suc n) = omega (arith, count-bound f n, one_le (f n))

pub count-zero : (n : ℕ) → count_below (λ p. false) n ≡ 0
unfolding count_below
count-zero zero = refl
count-zero (suc n) = omega (arith, count-zero n)

-- tests that differ at one number alone
pub count-same : (f g : ℕ → Bool) (n : ℕ) → ((k : ℕ) → k < n → f k ≡ g k) → count_below f n ≡ count_below g n
unfolding count_below
count-same f g zero h = refl
count-same f g (suc n) h =
    let here : one_if (f n) ≡ one_if (g n) = ap one_if (h n (omega arith)) in
    omega (arith, here, count-same f g n (λ k lt. h k (omega (arith, lt))))

pub count-one_more : (f g : ℕ → Bool) (n k : ℕ) → k < n → f k ≡ false → g k ≡ true → ((j : ℕ) → (j ≡ k → ⊥) → f j ≡ g j) → count_below g n ≡ count_below f n + 1
unfolding count_below
count-one_more f g zero k lt e e' h = absurd (omega arith)
count-one_more f g (suc n) k lt e e' h = elim (cases_eq k n) [
  | inl same ↦
      let f0 : one_if (f n) ≡ 0 = ap one_if (ap f (sym same) ∙ e) in
      let g1 : one_if (g n) ≡ 1 = ap one_if (ap g (sym same) ∙ e') in
      let below : count_below f n ≡ count_below g n = count-same f g n (λ j less. h j (λ at. omega (arith, at, less, same))) in
      omega (arith, f0, g1, below)
  | inr apart ↦
      let here : one_if (f n) ≡ one_if (g n) = ap one_if (h n (λ at. apart (sym at))) in
      omega (arith, here, count-one_more f g n k (omega (arith, apart)) e e' h)
]

-- ---- choices: none, and the ordinals below a bound

-- a choice that is counted
abbrev pub IsCounted : ℕ → Option ℕ → Type 0
IsCounted bound None = Unit {0}
IsCounted bound (Some k) = k < bound

pub choices-le : (bound : ℕ) (f g : Option ℕ → Bool) → ((c : Option ℕ) → f c ≡ true → g c ≡ true) → choices bound f ≤ choices bound g
unfolding choices
choices-le bound f g h = omega (arith, one_mono (f None) (g None) (h None), count-le (λ k. f (Some k)) (λ k. g (Some k)) (λ k. h (Some k)) bound)

pub choices-lt : (bound : ℕ) (f g : Option ℕ → Bool) → ((c : Option ℕ) → f c ≡ true → g c ≡ true) → (c : Option ℕ) → IsCounted bound c → f c ≡ false → g c ≡ true → choices bound f < choices bound g
unfolding choices
choices-lt bound f g h None counted e e' = omega (arith, one_strict (f None) (g None) e e', count-le (λ k. f (Some k)) (λ k. g (Some k)) (λ k. h (Some k)) bound)
choices-lt bound f g h (Some k) counted e e' = omega (arith, one_mono (f None) (g None) (h None), count-lt (λ k. f (Some k)) (λ k. g (Some k)) (λ k. h (Some k)) bound k counted e e')

pub choices-bound : (bound : ℕ) (f : Option ℕ → Bool) → choices bound f ≤ bound + 1
unfolding choices
choices-bound bound f = omega (arith, one_le (f None), count-bound (λ k. f (Some k)) bound)

-- ---- sums over the numbers below n

pub sum-le : (f g : ℕ → ℕ) → ((k : ℕ) → f k ≤ g k) → (n : ℕ) → sum_below f n ≤ sum_below g n
unfolding sum_below
sum-le f g h zero = omega arith
sum-le f g h (suc n) = omega (arith, sum-le f g h n, h n)

pub sum-lt : (f g : ℕ → ℕ) → ((k : ℕ) → f k ≤ g k) → (n k : ℕ) → k < n → f k < g k → sum_below f n < sum_below g n
unfolding sum_below
sum-lt f g h zero k lt less = absurd (omega arith)
sum-lt f g h (suc n) k lt less = elim (cases_eq k n) [
  | inl same ↦
      let here : f n < g n = subst_lt f g k n same less in
      omega (arith, here, sum-le f g h n)
  | inr apart ↦ omega (arith, sum-lt f g h n k (omega (arith, apart)) less, h n)
]
  where
    subst_lt : (f g : ℕ → ℕ) (k n : ℕ) → k ≡ n → f k < g k → f n < g n
    subst_lt f g k n e h = rw (← e) h

pub sum-bound : (f : ℕ → ℕ) (b : ℕ) → ((k : ℕ) → f k ≤ b) → (n : ℕ) → sum_below f n ≤ n * b
unfolding sum_below
sum-bound f b h zero = omega arith
sum-bound f b h (suc n) =
    let step : suc n * b ≡ b + n * b = search rules in
    omega (arith, sum-bound f b h n, h n, step)

-- ---- numbers by their digits, the first the most significant

pub number-same : (base : ℕ) (f g : ℕ → ℕ) (n : ℕ) → ((k : ℕ) → k < n → f k ≡ g k) → number base f n ≡ number base g n
unfolding number
number-same base f g zero h = refl
number-same base f g (suc n) h =
    let before : number base f n ≡ number base g n = number-same base f g n (λ k lt. h k (omega (arith, lt))) in
    rw (before, h n (omega arith)) refl

carry : (base a b x y : ℕ) → a < b → x < base → a * base + x < b * base + y
carry base a b x y lt small = grind arith

-- the first digit that differs decides
pub number-lt : (base : ℕ) (f g : ℕ → ℕ) (n at : ℕ) → at < n → ((k : ℕ) → k < at → f k ≡ g k) → f at < g at → ((k : ℕ) → f k < base) → number base f n < number base g n
unfolding number
number-lt base f g zero at lt same less small = absurd (omega arith)
number-lt base f g (suc n) at lt same less small = elim (cases_eq at n) [
  | inl here ↦
      let before : number base f n ≡ number base g n = number-same base f g n (λ k below. same k (omega (arith, below, here))) in
      let less' : f n < g n = rw (← here) less in
      rw before (omega (arith, less'))
  | inr apart ↦ carry base (number base f n) (number base g n) (f n) (g n) (number-lt base f g n at (omega (arith, apart)) same less small) (small n)
]
