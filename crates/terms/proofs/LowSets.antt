-- Sets of ordinals below 64, a bit each.
use Rattle.std.proofs.Common.{◌≡◌, ◌<◌, ◌≤◌, ◌+◌, ◌^◌, ◌∙◌, ◌*◌, ◌||◌, ◌⊎◌, inl, inr, ℕ, suc, List, [], ◌∷◌, get_or, length, refl, sym, ap, subst, arith, Bool, true, false, not, ◌&&◌, true≢false, nat_eq, bit_and}
use Rattle.std.specs.Int.{bit_not, trailing_zeros, w64}
use Rattle.std.proofs.lemmas.Bool.{cases_lt, ne_eqb}
use Rattle.std.proofs.lemmas.List.{append-nil}
use Rattle.std.proofs.lemmas.List.Folds.{list_any-append}
use Rattle.terms.specs.Merges.{kept_bits, keeps}
use Rattle.terms.specs.Sets.{has}
use Rattle.terms.specs.Words.{AreWords, WordsFrom, bits_from, is_bit, ordinals_of}
use Rattle.terms.specs.declared.merging.Rule.{Rule}
use Rattle.terms.specs.declared.merging.Rule.TheVariants as rule
use Rattle.terms.specs.declared.words.Word.{Word}
use Rattle.terms.proofs.Ascending.{absent-past, or-false}
use Rattle.terms.proofs.SameSets.{same_members}
use Rattle.terms.proofs.WordLists.{nil_ordinals, word_ordinal}
use Rattle.terms.proofs.WordBits.{bits_from-ascending, bits_from-ends, bits_from-next, bits_from-none, has-bits_from, is_bit-pow, kept_bits-keeps, lowest_bit, without_lowest}

abbrev pub low_ordinals : ℕ → List ℕ
low_ordinals bits = bits_from 64 0 bits

pub has-low : (bits k : ℕ) → k < 64 → has (low_ordinals bits) k ≡ is_bit bits k
has-low bits k lt = has-bits_from 64 0 bits k k lt (omega arith)

pub absent-high : (bits k : ℕ) → 64 ≤ k → has (low_ordinals bits) k ≡ false
absent-high bits k le = absent-past 64 k (low_ordinals bits) (bits_from-ends 64 0 bits 64 (omega arith)) le

below_or_not : (k : ℕ) → (k < 64) ⊎ (64 ≤ k)
below_or_not k = cases_lt k 64

pub has-below : (bits k : ℕ) → has (low_ordinals bits) k ≡ true → k < 64
has-below bits k there = elim (below_or_not k) [
  | inl lt ↦ lt
  | inr le ↦ absurd (true≢false (sym there ∙ absent-high bits k le))
]

keeps-none : (r : Rule) → keeps r false false ≡ false
keeps-none rule.Both = refl
keeps-none rule.Either = refl
keeps-none rule.FirstOnly = refl

pub kept-low : (r : Rule) (a b : ℕ) → b < 2 ^ 64 → (k : ℕ) → has (low_ordinals (kept_bits r a b)) k ≡ keeps r (has (low_ordinals a) k) (has (low_ordinals b) k)
kept-low r a b fits k = elim (below_or_not k) [
  | inl lt ↦
      has-low (kept_bits r a b) k lt ∙ kept_bits-keeps r a b k fits lt
      ∙ ap (λ (x : Bool). keeps r x (is_bit b k)) (sym (has-low a k lt)) ∙ ap (λ (y : Bool). keeps r (has (low_ordinals a) k) y) (sym (has-low b k lt))
  | inr le ↦ absent-high (kept_bits r a b) k le
      ∙ sym (ap (λ (x : Bool). keeps r x (has (low_ordinals b) k)) (absent-high a k le) ∙ ap (λ (y : Bool). keeps r false y) (absent-high b k le) ∙ keeps-none r)
]

pub without-low : (a o : ℕ) → 2 ^ o < 2 ^ 64 → (k : ℕ) → has (low_ordinals (bit_and a (bit_not w64 (2 ^ o)))) k ≡ (has (low_ordinals a) k && not (nat_eq o k))
without-low a o fits k = elim (below_or_not k) [
  | inl lt ↦
      has-low (bit_and a (bit_not w64 (2 ^ o))) k lt ∙ kept_bits-keeps rule.FirstOnly a (2 ^ o) k fits lt
      ∙ ap (λ (x : Bool). x && not (is_bit (2 ^ o) k)) (sym (has-low a k lt)) ∙ ap (λ (y : Bool). has (low_ordinals a) k && not y) (is_bit-pow o k)
  | inr le ↦ absent-high (bit_and a (bit_not w64 (2 ^ o))) k le ∙ sym (ap (λ (x : Bool). x && not (nat_eq o k)) (absent-high a k le))
]

pub without-none : (a o : ℕ) → 64 ≤ o → (k : ℕ) → has (low_ordinals a) k ≡ (has (low_ordinals a) k && not (nat_eq o k))
without-none a o high k = elim (below_or_not k) [
  | inl lt ↦
      let apart : nat_eq o k ≡ false = ne_eqb o k (λ e. omega (arith, e, lt, high)) in
      sym (ap (λ (y : Bool). has (low_ordinals a) k && not y) apart ∙ and_true (has (low_ordinals a) k))
  | inr le ↦ absent-high a k le ∙ sym (ap (λ (x : Bool). x && not (nat_eq o k)) (absent-high a k le))
]
  where
    and_true : (b : Bool) → (b && true) ≡ b
    and_true true = refl
    and_true false = refl

pub single-low : (o : ℕ) → o < 64 → low_ordinals (2 ^ o) ≡ o ∷ []
single-low o lt = same_members 0 (low_ordinals (2 ^ o)) (o ∷ []) (bits_from-ascending 64 0 (2 ^ o)) (omega arith, tt) (λ k. elim (below_or_not k) [
  | inl low ↦ has-low (2 ^ o) k low ∙ is_bit-pow o k ∙ sym (or-false (nat_eq o k))
  | inr high ↦ absent-high (2 ^ o) k high ∙ sym (or-false (nat_eq o k) ∙ ne_eqb o k (λ e. omega (arith, e, lt, high)))
])

pub none-low : low_ordinals 0 ≡ []
none-low = bits_from-none 64 0

-- what has a bit has an ordinal
pub some-low : (bits : ℕ) → 0 < bits → bits < 2 ^ 64 → low_ordinals bits ≡ [] → ⊥
some-low bits pos fits none =
    let lowest = lowest_bit bits pos fits in
    true≢false (sym (has-low bits (trailing_zeros w64 bits) lowest.0 ∙ lowest.1) ∙ ap (λ set. has set (trailing_zeros w64 bits)) none)

pub only-low : (bits : ℕ) → 0 < bits → bits < 2 ^ 64 → without_lowest bits ≡ 0 → low_ordinals bits ≡ trailing_zeros w64 bits ∷ []
only-low bits pos fits none =
    let start : 0 + trailing_zeros w64 bits ≡ trailing_zeros w64 bits = omega arith in
    bits_from-next 0 bits pos fits ∙ ap (λ at. at ∷ low_ordinals (without_lowest bits)) start ∙ ap (λ rest. trailing_zeros w64 bits ∷ low_ordinals rest) none ∙ ap (λ rest. trailing_zeros w64 bits ∷ rest) none-low

tail_of : List ℕ → List ℕ
tail_of [] = []
tail_of (x ∷ xs) = xs

pub several-low : (bits : ℕ) → 0 < bits → bits < 2 ^ 64 → 0 < without_lowest bits → without_lowest bits < 2 ^ 64 → (k : ℕ) → low_ordinals bits ≡ k ∷ [] → ⊥
unfolding tail_of
several-low bits pos fits more less k only =
    some-low (without_lowest bits) more less (ap tail_of (sym (bits_from-next 0 bits pos fits) ∙ only))

pub first_word : (bits : ℕ) → ordinals_of (record { number = 0; bits = bits } ∷ []) ≡ low_ordinals bits
unfolding ordinals_of
first_word bits = append-nil (low_ordinals bits)

pub not-one : (k : ℕ) → [] ≡ k ∷ [] → ⊥
not-one k e = let lengths = ap length e in omega (arith, lengths)

pub no_word : (items slice : List Word) → slice ≡ items → length slice < 1 → ordinals_of items ≡ []
no_word items slice same short = ap ordinals_of (sym same) ∙ none slice short
  where
    none : (words : List Word) → length words < 1 → ordinals_of words ≡ []
    none [] lt = nil_ordinals
    none (w ∷ rest) lt = absurd (omega (arith, lt))

pub one_word : (items slice : List Word) → slice ≡ items → 1 ≤ length slice → length slice < 2 → (get_or slice 0 (record { number = 0; bits = 0 })).number ≡ 0 → ordinals_of items ≡ low_ordinals (get_or slice 0 (record { number = 0; bits = 0 })).bits
one_word items slice same some short first = ap ordinals_of (sym same) ∙ one slice some short first
  where
    one : (words : List Word) → 1 ≤ length words → length words < 2 → (get_or words 0 (record { number = 0; bits = 0 })).number ≡ 0 → ordinals_of words ≡ low_ordinals (get_or words 0 (record { number = 0; bits = 0 })).bits
    one [] ge lt e = absurd (omega (arith, ge))
    one (w ∷ []) ge lt e = ap (λ n. ordinals_of (record { number = n; bits = w.bits } ∷ [])) e ∙ first_word w.bits
    one (w ∷ v ∷ rest) ge lt e = absurd (omega (arith, lt))

-- a word from the second on has an ordinal that is beyond the first word
pub beyond_word : (low : ℕ) (w : Word) (rest : List Word) → WordsFrom low (w ∷ rest) → 1 ≤ w.number → (k : ℕ) × (has (ordinals_of (w ∷ rest)) k ≡ true) × (64 ≤ k)
beyond_word low w rest h later = (64 * w.number + trailing_zeros w64 w.bits, word_ordinal low w rest h, omega (arith, later))

has-rest : (w : Word) (rest : List Word) (k : ℕ) → has (ordinals_of rest) k ≡ true → has (ordinals_of (w ∷ rest)) k ≡ true
unfolding ordinals_of
has-rest w rest k there =
    list_any-append (λ x. nat_eq x k) (bits_from 64 (64 * w.number) w.bits) (ordinals_of rest) ∙ ap (λ b. has (bits_from 64 (64 * w.number) w.bits) k || b) there ∙ or-true (has (bits_from 64 (64 * w.number) w.bits) k)
  where
    or-true : (b : Bool) → (b || true) ≡ true
    or-true true = refl
    or-true false = refl

-- there is one where the first word has a later number
pub later_word : (items slice : List Word) → slice ≡ items → AreWords items → 1 ≤ length slice → ((get_or slice 0 (record { number = 0; bits = 0 })).number ≡ 0 → ⊥) → (k : ℕ) × (has (ordinals_of items) k ≡ true) × (64 ≤ k)
later_word items slice same words some later = beyond items words (subst (λ (ws : List Word). 1 ≤ length ws) same some) (subst (λ (ws : List Word). (get_or ws 0 (record { number = 0; bits = 0 })).number ≡ 0 → ⊥) same later)
  where
    beyond : (ws : List Word) → AreWords ws → 1 ≤ length ws → ((get_or ws 0 (record { number = 0; bits = 0 })).number ≡ 0 → ⊥) → (k : ℕ) × (has (ordinals_of ws) k ≡ true) × (64 ≤ k)
    beyond [] h ge not_first = absurd (omega (arith, ge))
    beyond (w ∷ rest) h ge not_first = beyond_word 0 w rest h (omega (arith, not_first))

-- and where there are several words
pub several_words : (items slice : List Word) → slice ≡ items → AreWords items → 2 ≤ length slice → (k : ℕ) × (has (ordinals_of items) k ≡ true) × (64 ≤ k)
several_words items slice same words several = beyond items words (subst (λ (ws : List Word). 2 ≤ length ws) same several)
  where
    beyond : (ws : List Word) → AreWords ws → 2 ≤ length ws → (k : ℕ) × (has (ordinals_of ws) k ≡ true) × (64 ≤ k)
    beyond [] h ge = absurd (omega (arith, ge))
    beyond (w ∷ []) h ge = absurd (omega (arith, ge))
    beyond (w ∷ v ∷ rest) h ge =
        let found = beyond_word (suc w.number) v rest h.4 (omega (arith, h.4.0)) in
        (found.0, has-rest w (v ∷ rest) found.0 found.1, found.2)
