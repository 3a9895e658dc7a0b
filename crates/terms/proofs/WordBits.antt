-- The ordinals of one word, and the bits that are kept of two.
use Rattle.std.proofs.Common.{◌≡◌, ◌≢◌, ◌<◌, ◌≤◌, ◌+◌, ◌-◌, ◌*◌, ◌/◌, ◌%◌, ◌^◌, ◌∙◌, ◌⊎◌, inl, inr, ℕ, zero, suc, List, [], ◌∷◌, length, refl, add-zero, sym, ap, subst, arith, Bool, true, false, not, ◌||◌, ◌&&◌, true≢false, nat_eq, min, max}
use Rattle.std.specs.Prelude.{bit_and, count_ones}
use Rattle.std.specs.Int.{bit_at, bit_not, w64, trailing_zeros}
use Rattle.std.proofs.lemmas.Bool.{cases_Bool, eqb-true, ne_eqb}
use Rattle.std.proofs.lemmas.Nat.{and_block, and_le_l, or_lt}
use Rattle.std.proofs.lemmas.Nat.Bits.{bit_at_lowest, bit_at-suc, bit_at-lt, bit_at_and, bit_at_or, bit_at_not, bit_at-pow_other, bit_at-pow_same, bit_at-trailing_zeros, bit_at-zero, same_from_bits, same_from_bits_below}
use Rattle.std.proofs.Math.Nat.{pow-suc}
use lib.Count.{ones, ones_step}
use Rattle.terms.specs.Merges.{keeps, kept_bits}
use Rattle.terms.specs.Sets.{has, AscendingFrom}
use Rattle.terms.specs.Words.{is_bit, before_if, bits_from}
use Rattle.terms.proofs.Ascending.{EndsBelow, absent, from_lower, nat_eq-itself}
use Rattle.terms.specs.declared.merging.Rule.{Rule}
use Rattle.terms.specs.declared.merging.Rule.TheVariants as rule

-- ---- the ordinals of one word

before_if-ascending : (b : Bool) (base : ℕ) (rest : List ℕ) → AscendingFrom (suc base) rest → AscendingFrom base (before_if b base rest)
before_if-ascending true base rest h = (omega arith, h)
before_if-ascending false base rest h = from_lower base (suc base) rest (omega arith) h

pub bits_from-ascending : (count base bits : ℕ) → AscendingFrom base (bits_from count base bits)
unfolding bits_from
bits_from-ascending zero base bits = tt
bits_from-ascending (suc count) base bits = before_if-ascending (nat_eq (bits % 2) 1) base (bits_from count (suc base) (bits / 2)) (bits_from-ascending count (suc base) (bits / 2))

before_if-ends : (b : Bool) (base top : ℕ) (rest : List ℕ) → base < top → EndsBelow top rest → EndsBelow top (before_if b base rest)
before_if-ends true base top rest lt h = (lt, h)
before_if-ends false base top rest lt h = h

pub bits_from-ends : (count base bits top : ℕ) → base + count ≤ top → EndsBelow top (bits_from count base bits)
unfolding bits_from
bits_from-ends zero base bits top le = tt
bits_from-ends (suc count) base bits top le =
    before_if-ends (nat_eq (bits % 2) 1) base top (bits_from count (suc base) (bits / 2)) (omega arith) (bits_from-ends count (suc base) (bits / 2) top (omega arith))

has-before_if-same : (b : Bool) (base : ℕ) (rest : List ℕ) → has rest base ≡ false → has (before_if b base rest) base ≡ b
has-before_if-same true base rest gone = rw (nat_eq-itself base) refl
has-before_if-same false base rest gone = gone

has-before_if-other : (b : Bool) (base k : ℕ) (rest : List ℕ) → nat_eq base k ≡ false → has (before_if b base rest) k ≡ has rest k
has-before_if-other true base k rest apart = rw apart refl
has-before_if-other false base k rest apart = refl

pub has-bits_from : (count base bits i k : ℕ) → i < count → k ≡ base + i → has (bits_from count base bits) k ≡ is_bit bits i
unfolding bits_from
has-bits_from zero base bits i k lt e = absurd (omega arith)
has-bits_from (suc count) base bits zero k lt e =
    let same : base ≡ k = omega (arith, e) in
    let gone : has (bits_from count (suc base) (bits / 2)) base ≡ false = absent (suc base) base (bits_from count (suc base) (bits / 2)) (bits_from-ascending count (suc base) (bits / 2)) (omega arith) in
    subst (λ j. has (before_if (nat_eq (bits % 2) 1) base (bits_from count (suc base) (bits / 2))) j ≡ is_bit bits 0) same
    (has-before_if-same (nat_eq (bits % 2) 1) base (bits_from count (suc base) (bits / 2)) gone ∙ ap (λ n. nat_eq n 1) (sym (bit_at_lowest bits)))
has-bits_from (suc count) base bits (suc i) k lt e =
    let apart : nat_eq base k ≡ false = ne_eqb base k (λ h. omega (arith, h, e)) in
    has-before_if-other (nat_eq (bits % 2) 1) base k (bits_from count (suc base) (bits / 2)) apart
    ∙ has-bits_from count (suc base) (bits / 2) i k (omega arith) (omega (arith, e))
    ∙ ap (λ n. nat_eq n 1) (sym (bit_at-suc bits i))

-- the lowest bit of a word that is not zero
pub lowest_bit : (bits : ℕ) → 0 < bits → bits < 2 ^ 64 → (trailing_zeros w64 bits < 64) × (is_bit bits (trailing_zeros w64 bits) ≡ true)
lowest_bit bits pos lt = let h = bit_at-trailing_zeros w64 bits pos lt in (h.0, ap (λ n. nat_eq n 1) h.1)

-- ---- what is kept of two words

zero_or_one : (n : ℕ) → n < 2 → (n ≡ 0) ⊎ (n ≡ 1)
zero_or_one zero lt = inl refl
zero_or_one (suc zero) lt = inr refl
zero_or_one (suc (suc n)) lt = absurd (omega arith)

-- two bits, each 0 or 1
by_bits : (P : ℕ → ℕ → Type 0) (m n : ℕ) → m < 2 → n < 2 → P 0 0 → P 0 1 → P 1 0 → P 1 1 → P m n
by_bits P m n f g a b c d = elim (zero_or_one m f) [
  | inl e ↦ elim (zero_or_one n g) [ inl h ↦ rw (e, h) a | inr h ↦ rw (e, h) b ]
  | inr e ↦ elim (zero_or_one n g) [ inl h ↦ rw (e, h) c | inr h ↦ rw (e, h) d ]
]

pub kept_bits-keeps : (r : Rule) (a b i : ℕ) → b < 2 ^ 64 → i < 64 → is_bit (kept_bits r a b) i ≡ keeps r (is_bit a i) (is_bit b i)
kept_bits-keeps rule.Both a b i lt within =
    ap (λ n. nat_eq n 1) (bit_at_and a b i)
    ∙ by_bits (λ m n. nat_eq (min m n) 1 ≡ (nat_eq m 1 && nat_eq n 1)) (bit_at a i) (bit_at b i) (bit_at-lt a i) (bit_at-lt b i) refl refl refl refl
kept_bits-keeps rule.Either a b i lt within =
    ap (λ n. nat_eq n 1) (bit_at_or a b i)
    ∙ by_bits (λ m n. nat_eq (max m n) 1 ≡ (nat_eq m 1 || nat_eq n 1)) (bit_at a i) (bit_at b i) (bit_at-lt a i) (bit_at-lt b i) refl refl refl refl
kept_bits-keeps rule.FirstOnly a b i lt within =
    ap (λ n. nat_eq n 1) (bit_at_and a (bit_not w64 b) i ∙ ap (λ n. min (bit_at a i) n) (bit_at_not w64 b i lt within))
    ∙ by_bits (λ m n. nat_eq (min m (1 - n)) 1 ≡ (nat_eq m 1 && not (nat_eq n 1))) (bit_at a i) (bit_at b i) (bit_at-lt a i) (bit_at-lt b i) refl refl refl refl

pub kept_bits-none : (r : Rule) → kept_bits r 0 0 ≡ 0
kept_bits-none rule.Both = refl
kept_bits-none rule.Either = refl
kept_bits-none rule.FirstOnly = refl

pub kept_bits-below : (r : Rule) (a b : ℕ) → a < 2 ^ 64 → b < 2 ^ 64 → kept_bits r a b < 2 ^ 64
kept_bits-below rule.Both a b f g = let le = and_le_l a b in omega (arith, le)
kept_bits-below rule.Either a b f g = or_lt 64 a b f g
kept_bits-below rule.FirstOnly a b f g = let le = and_le_l a (bit_not w64 b) in omega (arith, le)

-- ---- counts, and the lowest bit

positive : (bits i : ℕ) → is_bit bits i ≡ true → 0 < bits
positive zero i e = absurd (true≢false (sym e ∙ ap (λ n. nat_eq n 1) (bit_at-zero i)))
positive (suc n) i e = omega arith

length-before_if : (b : Bool) (k : ℕ) (rest : List ℕ) (n : ℕ) → b ≡ nat_eq n 1 → n < 2 → length (before_if b k rest) ≡ n + length rest
length-before_if true k rest n e lt = let one : n ≡ 1 = eqb-true n 1 (sym e) in omega (arith, one)
length-before_if false k rest n e lt = elim (zero_or_one n lt) [
  | inl h ↦ omega (arith, h)
  | inr h ↦ absurd (true≢false (sym (nat_eq-itself 1) ∙ ap (λ m. nat_eq m 1) (sym h) ∙ sym e))
]

no_ones : 0 ≡ count_ones 0
unfolding ones
no_ones = refl

-- a number below 2 ^ count has as many ordinals as ones
pub length-bits_from : (count base bits : ℕ) → bits < 2 ^ count → length (bits_from count base bits) ≡ count_ones bits
unfolding bits_from
length-bits_from zero base bits lt = let none : bits ≡ 0 = omega arith in no_ones ∙ ap count_ones (sym none)
length-bits_from (suc count) base bits lt =
    let half : bits / 2 < 2 ^ count = omega (arith, pow-suc 2 count) in
    length-before_if (nat_eq (bits % 2) 1) base (bits_from count (suc base) (bits / 2)) (bits % 2) refl (omega arith)
    ∙ ap (λ n. bits % 2 + n) (length-bits_from count (suc base) (bits / 2) half) ∙ sym (ones_step bits)

-- the number without its lowest one
abbrev pub without_lowest : ℕ → ℕ
without_lowest n = bit_and n (n - 1)

and-itself : (n : ℕ) → bit_and n n ≡ n
and-itself n = same_from_bits (bit_and n n) n (λ i. bit_at_and n n i ∙ omega arith)

odd-without : (n : ℕ) → n % 2 ≡ 1 → without_lowest n ≡ n / 2 * 2
odd-without n odd =
    let m = n / 2 in
    let up : n ≡ m * 2 ^ 1 + 1 = omega (arith, odd) in
    let down : n - 1 ≡ m * 2 ^ 1 + 0 = omega (arith, odd) in
    ap (λ x. bit_and x (n - 1)) up ∙ ap (λ x. bit_and (m * 2 ^ 1 + 1) x) down ∙ and_block 1 m m 1 0 (omega arith) (omega arith)
    ∙ ap (λ x. x * 2 ^ 1 + bit_and 1 0) (and-itself m) ∙ add-zero (m * 2)

even-without : (n : ℕ) → n % 2 ≡ 0 → 0 < n → without_lowest n ≡ without_lowest (n / 2) * 2
even-without n even pos =
    let m = n / 2 in
    let up : n ≡ m * 2 ^ 1 + 0 = omega (arith, even) in
    let down : n - 1 ≡ (m - 1) * 2 ^ 1 + 1 = omega (arith, even) in
    ap (λ x. bit_and x (n - 1)) up ∙ ap (λ x. bit_and (m * 2 ^ 1 + 0) x) down ∙ and_block 1 m (m - 1) 0 1 (omega arith) (omega arith) ∙ add-zero (without_lowest m * 2)

doubled : (count base half n : ℕ) → n ≡ half * 2 → bits_from (suc count) base n ≡ bits_from count (suc base) half
unfolding bits_from
doubled count base half n e =
    let even : n % 2 ≡ 0 = omega (arith, e) in
    let halved : n / 2 ≡ half = omega (arith, e) in
    ap (λ x. before_if (nat_eq x 1) base (bits_from count (suc base) (n / 2))) even ∙ ap (λ x. bits_from count (suc base) x) halved

-- the lowest one comes first
pub bits_from-lowest : (count base bits place : ℕ) → place < count → is_bit bits place ≡ true → ((i : ℕ) → i < place → bit_at bits i ≡ 0)
    → bits_from count base bits ≡ (base + place) ∷ bits_from count base (without_lowest bits)
unfolding bits_from
bits_from-lowest zero base bits place lt one zeros = absurd (omega arith)
bits_from-lowest (suc count) base bits zero lt one zeros =
    let odd : bits % 2 ≡ 1 = sym (bit_at_lowest bits) ∙ eqb-true (bit_at bits 0) 1 one in
    let start : base ≡ base + 0 = omega arith in
    ap (λ x. before_if (nat_eq x 1) base (bits_from count (suc base) (bits / 2))) odd
    ∙ ap (λ x. x ∷ bits_from count (suc base) (bits / 2)) start
    ∙ ap (λ l. (base + 0) ∷ l) (sym (doubled count base (bits / 2) (without_lowest bits) (odd-without bits odd)))
bits_from-lowest (suc count) base bits (suc place) lt one zeros =
    let even : bits % 2 ≡ 0 = sym (bit_at_lowest bits) ∙ zeros 0 (omega arith) in
    let some : 0 < bits = positive bits (suc place) one in
    let later : is_bit (bits / 2) place ≡ true = ap (λ n. nat_eq n 1) (sym (bit_at-suc bits place)) ∙ one in
    let place_is : suc base + place ≡ base + suc place = omega arith in
    ap (λ x. before_if (nat_eq x 1) base (bits_from count (suc base) (bits / 2))) even
    ∙ bits_from-lowest count (suc base) (bits / 2) place (omega arith) later (λ i h. sym (bit_at-suc bits i) ∙ zeros (suc i) (omega arith))
    ∙ ap (λ x. x ∷ bits_from count (suc base) (without_lowest (bits / 2))) place_is
    ∙ ap (λ l. (base + suc place) ∷ l) (sym (doubled count base (without_lowest (bits / 2)) (without_lowest bits) (even-without bits even some)))

pub bits_from-next : (base bits : ℕ) → 0 < bits → bits < 2 ^ 64 → bits_from 64 base bits ≡ (base + trailing_zeros w64 bits) ∷ bits_from 64 base (without_lowest bits)
bits_from-next base bits pos lt =
    let h = bit_at-trailing_zeros w64 bits pos lt in
    bits_from-lowest 64 base bits (trailing_zeros w64 bits) h.0 (ap (λ n. nat_eq n 1) h.1) h.2

pub bits_from-none : (count base : ℕ) → bits_from count base 0 ≡ []
unfolding bits_from
bits_from-none zero base = refl
bits_from-none (suc count) base = bits_from-none count (suc base)

-- ---- the word of one ordinal

pub is_bit-pow : (a b : ℕ) → is_bit (2 ^ a) b ≡ nat_eq a b
is_bit-pow a b = elim (cases_Bool (nat_eq a b)) [
  | inl e ↦
      let same : a ≡ b = eqb-true a b e in
      subst (λ x. is_bit (2 ^ a) x ≡ true) same (ap (λ n. nat_eq n 1) (bit_at-pow_same a)) ∙ sym e
  | inr e ↦
      let apart : b ≢ a = λ same. true≢false (sym (nat_eq-itself b) ∙ ap (λ x. nat_eq x b) same ∙ e) in
      ap (λ n. nat_eq n 1) (bit_at-pow_other a b apart) ∙ sym e
]

-- ---- words with the same bits

test-one : (m n : ℕ) → m < 2 → n < 2 → nat_eq m 1 ≡ nat_eq n 1 → m ≡ n
test-one m n f g = by_bits (λ m n. nat_eq m 1 ≡ nat_eq n 1 → m ≡ n) m n f g (λ e. refl) (λ e. absurd (true≢false (sym e))) (λ e. absurd (true≢false e)) (λ e. refl)

pub same_bits : (a b : ℕ) → a < 2 ^ 64 → b < 2 ^ 64 → ((i : ℕ) → i < 64 → is_bit a i ≡ is_bit b i) → a ≡ b
same_bits a b f g h = same_from_bits_below 64 a b f g (λ i lt. test-one (bit_at a i) (bit_at b i) (bit_at-lt a i) (bit_at-lt b i) (h i lt))
