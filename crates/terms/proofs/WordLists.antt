-- Lists of words: their ordinals and their bits.
use Rattle.std.proofs.Common.{◌≡◌, ◌<◌, ◌≤◌, ◌+◌, ◌*◌, ◌/◌, ◌%◌, ◌^◌, ◌∙◌, inl, inr, ℕ, zero, suc, List, [], ◌∷◌, ◌++◌, drop, get_or, length, length-append, append_assoc, add-zero, refl, sym, ap, subst, arith, true, false, ◌||◌, true≢false, rules, nat_eq, nat_lt, if◌then◌else◌}
use Rattle.std.specs.Prelude.{◌↔◌, IsTrue, count_ones}
use Rattle.std.specs.Int.{trailing_zeros, w64}
use Rattle.std.proofs.lemmas.Bool.{cases_Bool, eqb-true, ne_eqb}
use Rattle.std.proofs.lemmas.List.{drop_more}
use Rattle.std.proofs.lemmas.List.Folds.{list_any-append}
use Rattle.std.proofs.lemmas.Nat.{ones-le}
use Rattle.std.proofs.lemmas.Nat.Bits.{bit_at-zero}
use Rattle.terms.specs.Sets.{has, AscendingFrom, IsAscending}
use Rattle.terms.specs.Words.{AreWords, NumbersBelow, WordsFrom, bits_from, bits_of, has_bit, is_bit, ordinals_of}
use Rattle.terms.proofs.Ascending.{AscendingFrom-append, absent, absent-past, from_lower, nat_eq-itself, or-false}
use Rattle.terms.proofs.WordBits.{bits_from-ascending, bits_from-ends, has-bits_from, length-bits_from, lowest_bit}
use Rattle.terms.specs.declared.words.Word.{Word}

-- ---- the ordinals of words

pub ordinals_of-ascending : (low : ℕ) (ws : List Word) → WordsFrom low ws → AscendingFrom (64 * low) (ordinals_of ws)
unfolding ordinals_of
ordinals_of-ascending low [] h = tt
ordinals_of-ascending low (w ∷ rest) h =
    from_lower (64 * low) (64 * w.number) (bits_from 64 (64 * w.number) w.bits ++ ordinals_of rest) (omega (arith, h.0))
    (AscendingFrom-append (64 * w.number) (64 * suc w.number) (bits_from 64 (64 * w.number) w.bits) (ordinals_of rest)
    (bits_from-ascending 64 (64 * w.number) w.bits)
    (bits_from-ends 64 (64 * w.number) w.bits (64 * suc w.number) (omega arith)) (omega arith)
    (ordinals_of-ascending (suc w.number) rest h.4))

outside : (w : Word) (k : ℕ) → nat_eq w.number (k / 64) ≡ false → has (bits_from 64 (64 * w.number) w.bits) k ≡ false
outside w k e =
    let apart : w.number ≡ k / 64 → ⊥ = λ same. true≢false (sym (nat_eq-itself (k / 64)) ∙ ap (λ n. nat_eq n (k / 64)) (sym same) ∙ e) in
    elim (cases_Bool (nat_lt k (64 * w.number))) [
      | inl lt ↦
          let below : k < 64 * w.number = search rules in
          absent (64 * w.number) k (bits_from 64 (64 * w.number) w.bits) (bits_from-ascending 64 (64 * w.number) w.bits) below
      | inr ge ↦
          let from : 64 * w.number ≤ k = search rules in
          let past : 64 * suc w.number ≤ k = omega (arith, from, apart) in
          absent-past (64 * suc w.number) k (bits_from 64 (64 * w.number) w.bits) (bits_from-ends 64 (64 * w.number) w.bits (64 * suc w.number) (omega arith)) past
    ]

pub has-ordinals_of : (low : ℕ) (ws : List Word) → WordsFrom low ws → (k : ℕ) → has (ordinals_of ws) k ≡ has_bit ws k
unfolding ordinals_of
has-ordinals_of low [] h k = ap (λ n. nat_eq n 1) (sym (bit_at-zero (k % 64)))
has-ordinals_of low (w ∷ rest) h k =
    list_any-append (λ x. nat_eq x k) (bits_from 64 (64 * w.number) w.bits) (ordinals_of rest) ∙ elim (cases_Bool (nat_eq w.number (k / 64))) [
      | inl e ↦
          let same : w.number ≡ k / 64 = eqb-true w.number (k / 64) e in
          let is_k : k ≡ 64 * w.number + k % 64 = omega (arith, same) in
          let within : k % 64 < 64 = omega arith in
          let here : has (bits_from 64 (64 * w.number) w.bits) k ≡ is_bit w.bits (k % 64) = has-bits_from 64 (64 * w.number) w.bits (k % 64) k within is_k in
          let below : k < 64 * suc w.number = omega (arith, is_k, within) in
          let gone : has (ordinals_of rest) k ≡ false = absent (64 * suc w.number) k (ordinals_of rest) (ordinals_of-ascending (suc w.number) rest h.4) below in
          ap (λ b. b || has (ordinals_of rest) k) here ∙ ap (λ b. is_bit w.bits (k % 64) || b) gone ∙ or-false (is_bit w.bits (k % 64))
          ∙ ap (λ b. is_bit (if b then w.bits else bits_of rest (k / 64)) (k % 64)) (sym e)
      | inr e ↦
          ap (λ b. b || has (ordinals_of rest) k) (outside w k e) ∙ has-ordinals_of (suc w.number) rest h.4 k
          ∙ ap (λ b. is_bit (if b then w.bits else bits_of rest (k / 64)) (k % 64)) (sym e)
    ]

-- an ordinal that is bit i of the word with number n
pub has_bit-at : (ws : List Word) (n i : ℕ) → i < 64 → has_bit ws (64 * n + i) ≡ is_bit (bits_of ws n) i
has_bit-at ws n i lt =
    let number : (64 * n + i) / 64 ≡ n = omega arith in
    let place : (64 * n + i) % 64 ≡ i = omega arith in
    ap (λ m. is_bit (bits_of ws m) ((64 * n + i) % 64)) number ∙ ap (λ m. is_bit (bits_of ws n) m) place

-- the bits of the first word are the ordinals below 64
pub low-bits : (ws : List Word) → AreWords ws → (k : ℕ) → k < 64 → is_bit (bits_of ws 0) k ≡ has (ordinals_of ws) k
low-bits ws h k lt =
    let number : 0 ≡ k / 64 = omega (arith, lt) in
    let place : k ≡ k % 64 = omega (arith, lt) in
    ap (λ m. is_bit (bits_of ws m) k) number ∙ ap (λ m. is_bit (bits_of ws (k / 64)) m) place ∙ sym (has-ordinals_of 0 ws h k)

pub bits_of-first : (w : Word) (rest : List Word) → bits_of (w ∷ rest) w.number ≡ w.bits
bits_of-first w rest = rw (nat_eq-itself w.number) refl

-- a word has an ordinal
pub word_ordinal : (low : ℕ) (w : Word) (rest : List Word) → WordsFrom low (w ∷ rest) → has (ordinals_of (w ∷ rest)) (64 * w.number + trailing_zeros w64 w.bits) ≡ true
word_ordinal low w rest h =
    let b = lowest_bit w.bits h.2 h.3 in
    let i = trailing_zeros w64 w.bits in
    has-ordinals_of low (w ∷ rest) h (64 * w.number + i) ∙ has_bit-at (w ∷ rest) w.number i b.0 ∙ ap (λ n. is_bit n i) (bits_of-first w rest) ∙ b.1

-- words that are there have an ordinal
pub ordinals_of-some : (low : ℕ) (w : Word) (rest : List Word) → WordsFrom low (w ∷ rest) → ordinals_of (w ∷ rest) ≡ [] → ⊥
ordinals_of-some low w rest h none =
    true≢false (sym (word_ordinal low w rest h) ∙ ap (λ l. has l (64 * w.number + trailing_zeros w64 w.bits)) none)

pub nil_ordinals : ordinals_of [] ≡ []
unfolding ordinals_of
nil_ordinals = refl

pub no_words : (ws : List Word) → AreWords ws → IsTrue (nat_eq (length ws) 0) ↔ (ordinals_of ws ≡ [])
no_words [] h = (λ _. nil_ordinals, λ _. refl)
no_words (w ∷ rest) h = (λ e. let same : length (w ∷ rest) ≡ 0 = eqb-true (length (w ∷ rest)) 0 e in absurd (omega (arith, same)), λ e. absurd (ordinals_of-some 0 w rest h e))

-- ---- the bits of words

pub bits_of-below : (low n : ℕ) (ws : List Word) → WordsFrom low ws → bits_of ws n < 2 ^ 64
bits_of-below low n [] h = omega arith
bits_of-below low n (w ∷ rest) h = elim (cases_Bool (nat_eq w.number n)) [
  | inl e ↦ rw e h.3
  | inr e ↦ rw e (bits_of-below (suc w.number) n rest h.4)
]

pub bits_of-absent : (low n : ℕ) (ws : List Word) → WordsFrom low ws → n < low → bits_of ws n ≡ 0
bits_of-absent low n [] h lt = refl
bits_of-absent low n (w ∷ rest) h lt =
    let apart : nat_eq w.number n ≡ false = ne_eqb w.number n (λ e. omega (arith, e, h.0)) in
    rw apart (bits_of-absent (suc w.number) n rest h.4 (omega (arith, h.0)))

pub bits_of-past : (top n : ℕ) (ws : List Word) → NumbersBelow top ws → top ≤ n → bits_of ws n ≡ 0
bits_of-past top n [] h le = refl
bits_of-past top n (w ∷ rest) h le =
    let apart : nat_eq w.number n ≡ false = ne_eqb w.number n (λ e. omega (arith, e, h.0)) in
    rw apart (bits_of-past top n rest h.1 le)

pub NumbersBelow-more : (low high : ℕ) (ws : List Word) → NumbersBelow low ws → low ≤ high → NumbersBelow high ws
NumbersBelow-more low high [] h le = tt
NumbersBelow-more low high (w ∷ rest) h le = (omega (arith, h.0), NumbersBelow-more low high rest h.1 le)

-- ---- a word between others

pub WordsFrom-between : (low : ℕ) (front back : List Word) (x : Word) → WordsFrom low front → NumbersBelow x.number front → WordsFrom (suc x.number) back
    → low ≤ x.number → 64 * x.number < 2 ^ 32 → 0 < x.bits → x.bits < 2 ^ 64 → WordsFrom low (front ++ x ∷ back)
WordsFrom-between low [] back x h below above from small some fits = (from, small, some, fits, above)
WordsFrom-between low (w ∷ rest) back x h below above from small some fits =
    (h.0, h.1, h.2, h.3, WordsFrom-between (suc w.number) rest back x h.4 below.1 above (omega (arith, below.0)) small some fits)

pub WordsFrom-parts : (low : ℕ) (front back : List Word) (x : Word) → WordsFrom low (front ++ x ∷ back)
    → WordsFrom low front × NumbersBelow x.number front × WordsFrom (suc x.number) back × (low ≤ x.number) × (64 * x.number < 2 ^ 32) × (0 < x.bits) × (x.bits < 2 ^ 64)
WordsFrom-parts low [] back x h = (tt, tt, h.4, h.0, h.1, h.2, h.3)
WordsFrom-parts low (w ∷ rest) back x h =
    let p = WordsFrom-parts (suc w.number) rest back x h.4 in
    ((h.0, h.1, h.2, h.3, p.0), (omega (arith, p.3), p.1), p.2, omega (arith, p.3, h.0), p.4, p.5, p.6)

pub bits_of-between-same : (front back : List Word) (x : Word) → NumbersBelow x.number front → bits_of (front ++ x ∷ back) x.number ≡ x.bits
bits_of-between-same [] back x below = rw (nat_eq-itself x.number) refl
bits_of-between-same (w ∷ rest) back x below =
    let apart : nat_eq w.number x.number ≡ false = ne_eqb w.number x.number (λ e. omega (arith, e, below.0)) in
    rw apart (bits_of-between-same rest back x below.1)

pub bits_of-between-other : (n : ℕ) (front back : List Word) (x : Word) → nat_eq x.number n ≡ false → bits_of (front ++ x ∷ back) n ≡ bits_of (front ++ back) n
bits_of-between-other n [] back x e = rw e refl
bits_of-between-other n (w ∷ rest) back x e = ap (λ b. if nat_eq w.number n then w.bits else b) (bits_of-between-other n rest back x e)

-- ---- a word at the end

pub NumbersBelow-push : (low high : ℕ) (ws : List Word) (x : Word) → NumbersBelow low ws → low ≤ high → x.number < high → NumbersBelow high (ws ++ x ∷ [])
NumbersBelow-push low high [] x h le lt = (lt, tt)
NumbersBelow-push low high (w ∷ rest) x h le lt = (omega (arith, h.0), NumbersBelow-push low high rest x h.1 le lt)

pub IsAscending-ordinals_of : (ws : List Word) → AreWords ws → IsAscending (ordinals_of ws)
IsAscending-ordinals_of ws h = from_lower 0 (64 * 0) (ordinals_of ws) (omega arith) (ordinals_of-ascending 0 ws h)

-- ---- how many ordinals

pub length-ordinals_of : (low : ℕ) (w : Word) (rest : List Word) → WordsFrom low (w ∷ rest) → length (ordinals_of (w ∷ rest)) ≡ count_ones w.bits + length (ordinals_of rest)
unfolding ordinals_of
length-ordinals_of low w rest h =
    length-append (bits_from 64 (64 * w.number) w.bits) (ordinals_of rest) ∙ ap (λ n. n + length (ordinals_of rest)) (length-bits_from 64 (64 * w.number) w.bits h.3)

no_length : length (ordinals_of []) ≡ 0
unfolding ordinals_of
no_length = refl

pub length-ordinals_of-bound : (low : ℕ) (ws : List Word) → WordsFrom low ws → low ≤ 2 ^ 26 → length (ordinals_of ws) + 64 * low ≤ 2 ^ 32
length-ordinals_of-bound low [] h le = omega (arith, no_length)
length-ordinals_of-bound low (w ∷ rest) h le =
    let more = length-ordinals_of-bound (suc w.number) rest h.4 (omega (arith, h.1)) in
    let here = length-ordinals_of low w rest h in
    let few = ones-le 64 w.bits h.3 in
    omega (arith, more, here, few, h.0)

pub ordinals_of-append : (ws vs : List Word) → ordinals_of (ws ++ vs) ≡ ordinals_of ws ++ ordinals_of vs
unfolding ordinals_of
ordinals_of-append [] vs = refl
ordinals_of-append (w ∷ rest) vs = ap (λ l. bits_from 64 (64 * w.number) w.bits ++ l) (ordinals_of-append rest vs) ∙ sym (append_assoc (bits_from 64 (64 * w.number) w.bits) (ordinals_of rest) (ordinals_of vs))

length-ordinals_of-one : (w : Word) → w.bits < 2 ^ 64 → length (ordinals_of (w ∷ [])) ≡ count_ones w.bits
unfolding ordinals_of
length-ordinals_of-one w lt = length-append (bits_from 64 (64 * w.number) w.bits) [] ∙ add-zero (length (bits_from 64 (64 * w.number) w.bits)) ∙ length-bits_from 64 (64 * w.number) w.bits lt

pub length-ordinals_of-push : (ws : List Word) (w : Word) → w.bits < 2 ^ 64 → length (ordinals_of (ws ++ w ∷ [])) ≡ length (ordinals_of ws) + count_ones w.bits
length-ordinals_of-push ws w lt =
    ap length (ordinals_of-append ws (w ∷ [])) ∙ length-append (ordinals_of ws) (ordinals_of (w ∷ [])) ∙ ap (λ n. length (ordinals_of ws) + n) (length-ordinals_of-one w lt)

-- `total` ordinals are in the words before `rest`
pub record IsCounting (words rest : List Word) (total : ℕ) : Type 0 where
  pub low : ℕ
  pub on_rest : WordsFrom low rest
  pub sum : total + length (ordinals_of rest) ≡ length (ordinals_of words)
  pub bound : length (ordinals_of words) ≤ 2 ^ 32

pub counting-begin : (words : List Word) → AreWords words → IsCounting words words 0
counting-begin words h = record { low = 0; on_rest = h; sum = omega arith; bound = let b = length-ordinals_of-bound 0 words h (omega arith) in omega (arith, b) }

module _ (words : List Word) (i total : ℕ) (d : Word) (m : IsCounting words (drop i words) total) (lt : i < length words) where
  here : IsCounting words (get_or words i d ∷ drop (i + 1) words) total
  here = subst (λ l. IsCounting words l total) (drop_more words i d lt) m

  pub counting-fits : total + count_ones (get_or words i d).bits < 2 ^ 64
  counting-fits = let h = here in let first = length-ordinals_of h.low (get_or words i d) (drop (i + 1) words) h.on_rest in omega (arith, h.sum, first, h.bound)

  pub counting-turn : IsCounting words (drop (i + 1) words) (total + count_ones (get_or words i d).bits)
  counting-turn =
      let h = here in
      let first = length-ordinals_of h.low (get_or words i d) (drop (i + 1) words) h.on_rest in
      record { low = suc (get_or words i d).number; on_rest = h.on_rest.4; sum = omega (arith, h.sum, first); bound = h.bound }

drop-past : (i : ℕ) (words : List Word) → length words ≤ i → drop i words ≡ []
drop-past zero [] le = refl
drop-past (suc i) [] le = refl
drop-past zero (w ∷ rest) le = absurd (omega arith)
drop-past (suc i) (w ∷ rest) le = drop-past i rest (omega arith)

pub counting-end : (words : List Word) (i total : ℕ) → IsCounting words (drop i words) total → length words ≤ i → total ≡ length (ordinals_of words)
counting-end words i total m le = let none = ap (λ l. length (ordinals_of l)) (drop-past i words le) in omega (arith, m.sum, none, no_length)
