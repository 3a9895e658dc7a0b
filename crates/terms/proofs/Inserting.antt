-- One more ordinal comes in, at the place of its word.
use Rattle.std.proofs.Common.{◌≡◌, ◌<◌, ◌≤◌, ◌-◌, ◌*◌, ◌/◌, ◌%◌, ◌^◌, ◌∙◌, inl, inr, ℕ, zero, suc, Bool, List, [], ◌∷◌, ◌++◌, take, drop, get_or, set, length, refl, sym, ap, subst, arith, false, ◌||◌, true≢false, nat_eq, if◌then◌else◌}
use Rattle.std.specs.Prelude.{bit_or, slice_get, slice_index_or, slice_set, Some, Result, Ok, Err}
use Rattle.std.specs.List.{insert, refill}
use Rattle.std.specs.List.Sorted.{IsBinarySearchResult, IsSearchInRange}
use Rattle.std.specs.Ordering.{nat_cmp, ordering_index}
use Rattle.std.proofs.lemmas.Bool.{cases_Bool, eqb-true, ne_eqb}
use Rattle.std.proofs.lemmas.Bool.Decides.{nat_tests}
use Rattle.std.proofs.lemmas.Nat.{le_or_l, or_comm, or_lt, pow_below, pow_pos}
use Rattle.std.proofs.lemmas.Nat.Bits.{bit_at-zero}
use Rattle.std.proofs.lemmas.List.{length-set, take-append-drop}
use Rattle.std.proofs.Math.Seq.{take-length}
use Rattle.std.proofs.lemmas.Option.{get_or_from_slice_get, slice_get-get_or}
use Rattle.smallvec.specs.SmallVec.{SmallVec, small_vec_len}
use Rattle.smallvec.proofs.SmallVecLemmas.{items-with_items}
use Rattle.terms.specs.Sets.{has}
use Rattle.terms.specs.Words.{AreWords, IsPlace, NumbersBelow, WordsFrom, bits_of, has_bit, is_bit, ordinals_of}
use Rattle.terms.proofs.Ascending.{nat_eq-itself}
use Rattle.terms.proofs.MergedWords.{kept_ordinals}
use Rattle.terms.proofs.WordBits.{is_bit-pow}
use Rattle.terms.proofs.WordLists.{NumbersBelow-push, WordsFrom-between, WordsFrom-parts, bits_of-absent, bits_of-between-other, bits_of-between-same, has-ordinals_of}
use Rattle.terms.specs.declared.words.Word.{Word}
use Rattle.terms.specs.declared.merging.Rule.TheVariants as rule
use Rattle.std.specs.declared.cmp.Ordering.TheVariants as cmp

-- ---- words with a gap

bits_of-gap : (n : ℕ) (front back : List Word) → NumbersBelow n front → WordsFrom (suc n) back → bits_of (front ++ back) n ≡ 0
bits_of-gap n [] back below above = bits_of-absent (suc n) n back above (omega arith)
bits_of-gap n (w ∷ rest) back below above =
    let apart : nat_eq w.number n ≡ false = ne_eqb w.number n (λ e. omega (arith, e, below.0)) in
    rw apart (bits_of-gap n rest back below.1 above)

pub split-at : (ws : List Word) (i : ℕ) (w : Word) → slice_get ws i ≡ Some w → ws ≡ take i ws ++ w ∷ drop (suc i) ws
split-at [] i w e = cc
split-at (v ∷ rest) zero w e = let same : v ≡ w = cc in ap (λ x. x ∷ rest) same
split-at (v ∷ rest) (suc i) w e = ap (λ l. v ∷ l) (split-at rest i w e)

set-at : (ws : List Word) (i : ℕ) (x w : Word) → slice_get ws i ≡ Some w → set ws i x ≡ take i ws ++ x ∷ drop (suc i) ws
set-at [] i x w e = cc
set-at (v ∷ rest) zero x w e = refl
set-at (v ∷ rest) (suc i) x w e = ap (λ l. v ∷ l) (set-at rest i x w e)

WordsFrom-front : (low : ℕ) (front back : List Word) → WordsFrom low (front ++ back) → WordsFrom low front
WordsFrom-front low [] back h = tt
WordsFrom-front low (w ∷ rest) back h = (h.0, h.1, h.2, h.3, WordsFrom-front (suc w.number) rest back h.4)

-- ---- a word's place

pub bits_of-at : (number place : ℕ) (ws : List Word) (w : Word) → AreWords ws → slice_get ws place ≡ Some w → w.number ≡ number → bits_of ws number ≡ w.bits
bits_of-at number place ws w h at same =
    let split = split-at ws place w at in
    let p = WordsFrom-parts 0 (take place ws) (drop (suc place) ws) w (subst (λ l. AreWords l) split h) in
    ap (λ n. bits_of ws n) (sym same) ∙ ap (λ l. bits_of l w.number) split ∙ bits_of-between-same (take place ws) (drop (suc place) ws) w p.1

pub bits_of-none : (number place : ℕ) (ws : List Word) → NumbersBelow number (take place ws) → WordsFrom (suc number) (drop place ws) → bits_of ws number ≡ 0
bits_of-none number place ws below above = ap (λ l. bits_of l number) (sym (take-append-drop place ws)) ∙ bits_of-gap number (take place ws) (drop place ws) below above

-- ---- where a search leads

-- where the last word is lower, the place is the end
take-all : (ws : List Word) → take (length ws) ws ≡ ws
take-all = take-length

drop-all : (n : ℕ) (ws : List Word) → WordsFrom n (drop (length ws) ws)
drop-all n [] = tt
drop-all n (w ∷ rest) = drop-all n rest

last-behind : (v : Word) (rest : List Word) (w : Word) → slice_get (v ∷ rest) (length rest) ≡ Some w → (front : List Word) × (v ∷ rest ≡ front ++ w ∷ [])
last-behind v [] w e = let same : v ≡ w = cc in ([], ap (λ x. x ∷ []) same)
last-behind v (u ∷ rest) w e = let f = last-behind u rest w e in (v ∷ f.0, ap (λ l. v ∷ l) f.1)

last-split : (ws : List Word) (w : Word) → slice_get ws (length ws - 1) ≡ Some w → (front : List Word) × (ws ≡ front ++ w ∷ [])
last-split [] w e = cc
last-split (v ∷ rest) w e = let end : length (v ∷ rest) - 1 ≡ length rest = omega arith in last-behind v rest w (subst (λ i. slice_get (v ∷ rest) i ≡ Some w) end e)

pub place-end : (number : ℕ) (ws : List Word) (last : Word) → AreWords ws → slice_get ws (length ws - 1) ≡ Some last → last.number < number → IsPlace number ws (Err (length ws))
place-end number ws last h at lt =
    let f = last-split ws last at in
    let p = WordsFrom-parts 0 f.0 [] last (subst (λ l. AreWords l) f.1 h) in
    (omega arith, subst (λ l. NumbersBelow number l) (sym f.1 ∙ sym (take-all ws)) (NumbersBelow-push last.number number f.0 last p.1 (omega (arith, lt)) lt), drop-all (suc number) ws)

pub cmp-less : (x n : ℕ) → nat_cmp x n ≡ cmp.Less → x < n
cmp-less x n e = grind (arith, nat_tests)

cmp-equal : (x n : ℕ) → nat_cmp x n ≡ cmp.Equal → x ≡ n
cmp-equal x n e = grind (arith, nat_tests)

cmp-greater : (x n : ℕ) → nat_cmp x n ≡ cmp.Greater → n < x
cmp-greater x n e = grind (arith, nat_tests)

cmp-rises : (x y n : ℕ) → x ≤ y → ordering_index (nat_cmp x n) ≤ ordering_index (nat_cmp y n)
cmp-rises x y n le = grind (arith, nat_tests)

abbrev pub no_word : Word
no_word = record { number = 0; bits = 0 }

numbers-from : (low : ℕ) (ws : List Word) (i : ℕ) (d : Word) → WordsFrom low ws → i < length ws → low ≤ (get_or ws i d).number
numbers-from low [] i d h lt = absurd (omega arith)
numbers-from low (w ∷ rest) zero d h lt = h.0
numbers-from low (w ∷ rest) (suc i) d h lt = let more = numbers-from (suc w.number) rest i d h.4 (omega arith) in omega (arith, more, h.0)

numbers-rise : (low : ℕ) (ws : List Word) (i j : ℕ) (d : Word) → WordsFrom low ws → i ≤ j → j < length ws → (get_or ws i d).number ≤ (get_or ws j d).number
numbers-rise low [] i j d h le lt = absurd (omega arith)
numbers-rise low (w ∷ rest) zero zero d h le lt = omega arith
numbers-rise low (w ∷ rest) zero (suc j) d h le lt = let more = numbers-from (suc w.number) rest j d h.4 (omega arith) in omega (arith, more)
numbers-rise low (w ∷ rest) (suc i) zero d h le lt = absurd (omega arith)
numbers-rise low (w ∷ rest) (suc i) (suc j) d h le lt = numbers-rise (suc w.number) rest i j d h.4 (omega arith) (omega arith)

below-take : (n i : ℕ) (ws : List Word) → i ≤ length ws → ((k : ℕ) → k < i → (get_or ws k no_word).number < n) → NumbersBelow n (take i ws)
below-take n zero ws le h = tt
below-take n (suc i) [] le h = tt
below-take n (suc i) (w ∷ rest) le h = (h 0 (omega arith), below-take n i rest (omega arith) (λ k lt. h (suc k) (omega arith)))

above-drop : (n i low : ℕ) (ws : List Word) → WordsFrom low ws → ((k : ℕ) → i ≤ k → k < length ws → n < (get_or ws k no_word).number) → WordsFrom (suc n) (drop i ws)
above-drop n zero low [] h f = tt
above-drop n (suc i) low [] h f = tt
above-drop n zero low (w ∷ rest) h f = (let lt = f 0 (omega arith) (omega arith) in omega (arith, lt), h.1, h.2, h.3, h.4)
above-drop n (suc i) low (w ∷ rest) h f = above-drop n i (suc w.number) rest h.4 (λ k le lt. f (suc k) (omega arith) (omega arith))

pub place-searched : (number : ℕ) (ws : List Word) (r : Result ℕ ℕ) → AreWords ws → IsSearchInRange r (length ws) → IsBinarySearchResult (λ w. nat_cmp w.number number) ws r → IsPlace number ws r
place-searched number ws (Ok i) h bound found = (get_or ws i no_word, slice_get-get_or ws i no_word bound, cmp-equal (get_or ws i no_word).number number (found no_word))
place-searched number ws (Err i) h bound found =
    let parts = found (λ a b d le lt. cmp-rises (get_or ws a d).number (get_or ws b d).number number (numbers-rise 0 ws a b d h le lt)) in (
      bound,
      below-take number i ws bound (λ k lt. cmp-less (get_or ws k no_word).number number (parts.0 k no_word (omega arith) lt)),
      above-drop number i 0 ws h (λ k le lt. cmp-greater (get_or ws k no_word).number number (parts.1 k no_word le lt)),
    )

-- ---- the word of one ordinal

-- the word has one ordinal
pub record IsWordOf (k : ℕ) (word : Word) : Type 0 where
  pub number : word.number ≡ k / 64
  pub bits : word.bits ≡ 2 ^ (k % 64)
  pub small : 64 * word.number < 2 ^ 32
  pub some : 0 < word.bits
  pub fits : word.bits < 2 ^ 64

is-word_of : (k : ℕ) (word : Word) → k < 2 ^ 32 → word.number ≡ k / 64 → word.bits ≡ 2 ^ (k % 64) → IsWordOf k word
is-word_of k word lt is_number is_bits = record {
  number = is_number;
  bits = is_bits;
  small = omega (arith, is_number);
  some = let p = pow_pos (k % 64) in omega (arith, is_bits, p);
  fits = let p = pow_below (k % 64) 64 (omega arith) in omega (arith, is_bits, p);
}

places : (k j : ℕ) → k / 64 ≡ j / 64 → nat_eq (k % 64) (j % 64) ≡ nat_eq k j
places k j e = elim (cases_Bool (nat_eq k j)) [
  | inl same ↦ let equal : k ≡ j = eqb-true k j same in ap (λ x. nat_eq (x % 64) (j % 64)) equal ∙ nat_eq-itself (j % 64) ∙ sym same
  | inr other ↦
      let apart : k % 64 ≡ j % 64 → ⊥ = λ h. let equal : k ≡ j = omega (arith, e, h) in true≢false (sym (nat_eq-itself j) ∙ ap (λ x. nat_eq x j) (sym equal) ∙ other) in
      ne_eqb (k % 64) (j % 64) apart ∙ sym other
]

has_bit-word_of : (k : ℕ) (word : Word) → IsWordOf k word → (j : ℕ) → has_bit (word ∷ []) j ≡ nat_eq k j
has_bit-word_of k word m j = elim (cases_Bool (nat_eq word.number (j / 64))) [
  | inl e ↦
      let same : word.number ≡ j / 64 = eqb-true word.number (j / 64) e in
      ap (λ b. is_bit (if b then word.bits else 0) (j % 64)) e ∙ ap (λ n. is_bit n (j % 64)) m.bits ∙ is_bit-pow (k % 64) (j % 64) ∙ places k j (sym m.number ∙ same)
  | inr e ↦
      let apart : k ≡ j → ⊥ = λ h. true≢false (sym (nat_eq-itself (j / 64)) ∙ ap (λ x. nat_eq (x / 64) (j / 64)) (sym h) ∙ ap (λ n. nat_eq n (j / 64)) (sym m.number) ∙ e) in
      ap (λ b. is_bit (if b then word.bits else 0) (j % 64)) e ∙ ap (λ n. nat_eq n 1) (bit_at-zero (j % 64)) ∙ sym (ne_eqb k j apart)
]

-- ---- a word of several ordinals

-- the word has the ordinals that pass a test
pub record IsWordWith (passes : ℕ → Bool) (word : Word) : Type 0 where
  pub small : 64 * word.number < 2 ^ 32
  pub some : 0 < word.bits
  pub fits : word.bits < 2 ^ 64
  pub members : (j : ℕ) → has_bit (word ∷ []) j ≡ passes j

pub AreWords-one : (passes : ℕ → Bool) (word : Word) → IsWordWith passes word → AreWords (word ∷ [])
AreWords-one passes word m = (omega arith, m.small, m.some, m.fits, tt)

-- a word by what it has
pub word-with : (word : Word) → AreWords (word ∷ []) → IsWordWith (has_bit (word ∷ [])) word
word-with word h = record { small = h.1; some = h.2; fits = h.3; members = λ j. refl }

pub word_of-is : (k : ℕ) (word : Word) → k < 2 ^ 32 → word.number ≡ k / 64 → word.bits ≡ 2 ^ (k % 64) → IsWordWith (nat_eq k) word
word_of-is k word lt is_number is_bits =
    let m = is-word_of k word lt is_number is_bits in
    record { small = m.small; some = m.some; fits = m.fits; members = has_bit-word_of k word m }

or-none : (n : ℕ) → bit_or n 0 ≡ n
or-none n = or_comm n 0

-- `grown` has the bits of words and of one word
abbrev pub HasBitsOf : List Word → List Word → Word → Type 0
HasBitsOf grown ws word = (n : ℕ) → bits_of grown n ≡ bit_or (bits_of ws n) (bits_of (word ∷ []) n)

pub grown-members : (passes : ℕ → Bool) (word : Word) (ws grown : List Word) → IsWordWith passes word → AreWords ws → AreWords grown → HasBitsOf grown ws word
    → (j : ℕ) → has (ordinals_of grown) j ≡ (has (ordinals_of ws) j || passes j)
grown-members passes word ws grown m h g bits j =
    let one = AreWords-one passes word m in
    kept_ordinals rule.Either ws (word ∷ []) grown h one g bits j
    ∙ ap (λ b. has (ordinals_of ws) j || b) (has-ordinals_of 0 (word ∷ []) one j ∙ m.members j)

-- ---- the words grow

-- `grown` has the ordinals of words, and those that pass a test
abbrev pub Grown : (ℕ → Bool) → List Word → List Word → Type 0
Grown passes words grown = AreWords grown × ((j : ℕ) → has (ordinals_of grown) j ≡ (has (ordinals_of words) j || passes j))

module _ (passes : ℕ → Bool) (word : Word) (m : IsWordWith passes word) (front back : List Word) where
  -- into a word that is there
  grown-in : (w joined : Word) → AreWords (front ++ w ∷ back) → w.number ≡ word.number → joined.number ≡ w.number → joined.bits ≡ bit_or w.bits word.bits
      → Grown passes (front ++ w ∷ back) (front ++ joined ∷ back)
  grown-in w joined h at same bits =
      let p = WordsFrom-parts 0 front back w h in
      let below : NumbersBelow joined.number front = subst (λ n. NumbersBelow n front) (sym same) p.1 in
      let above : WordsFrom (suc joined.number) back = subst (λ n. WordsFrom (suc n) back) (sym same) p.2 in
      let small : 64 * joined.number < 2 ^ 32 = omega (arith, same, p.4) in
      let some : 0 < joined.bits = let le = le_or_l w.bits word.bits in omega (arith, bits, le, p.5) in
      let fits : joined.bits < 2 ^ 64 = rw bits (or_lt 64 w.bits word.bits p.6 m.fits) in
      let g = WordsFrom-between 0 front back joined p.0 below above (omega arith) small some fits in (
        g,
        grown-members passes word (front ++ w ∷ back) (front ++ joined ∷ back) m h g (λ n. elim (cases_Bool (nat_eq word.number n)) [
          | inl e ↦
              let is : word.number ≡ n = eqb-true word.number n e in
              let is_joined : joined.number ≡ n = same ∙ at ∙ is in
              let is_w : w.number ≡ n = at ∙ is in
              ap (λ x. bits_of (front ++ joined ∷ back) x) (sym is_joined) ∙ bits_of-between-same front back joined below ∙ bits
              ∙ ap (λ b. bit_or b word.bits) (sym (bits_of-between-same front back w p.1) ∙ ap (λ x. bits_of (front ++ w ∷ back) x) is_w)
              ∙ ap (λ b. bit_or (bits_of (front ++ w ∷ back) n) (if b then word.bits else 0)) (sym e)
          | inr e ↦
              let other_w : nat_eq w.number n ≡ false = ap (λ x. nat_eq x n) at ∙ e in
              let other_joined : nat_eq joined.number n ≡ false = ap (λ x. nat_eq x n) same ∙ other_w in
              bits_of-between-other n front back joined other_joined ∙ sym (bits_of-between-other n front back w other_w)
              ∙ sym (or-none (bits_of (front ++ w ∷ back) n)) ∙ ap (λ b. bit_or (bits_of (front ++ w ∷ back) n) (if b then word.bits else 0)) (sym e)
        ]),
      )

  -- as a word of its own
  grown-between : AreWords (front ++ back) → WordsFrom 0 front → NumbersBelow word.number front → WordsFrom (suc word.number) back → Grown passes (front ++ back) (front ++ word ∷ back)
  grown-between h f below above =
      let g = WordsFrom-between 0 front back word f below above (omega arith) m.small m.some m.fits in (
        g,
        grown-members passes word (front ++ back) (front ++ word ∷ back) m h g (λ n. elim (cases_Bool (nat_eq word.number n)) [
          | inl e ↦
              let is : word.number ≡ n = eqb-true word.number n e in
              let gone : bits_of (front ++ back) n ≡ 0 = ap (λ x. bits_of (front ++ back) x) (sym is) ∙ bits_of-gap word.number front back below above in
              ap (λ x. bits_of (front ++ word ∷ back) x) (sym is) ∙ bits_of-between-same front back word below
              ∙ sym (or_comm 0 word.bits ∙ or-none word.bits) ∙ ap (λ b. bit_or b word.bits) (sym gone)
              ∙ ap (λ b. bit_or (bits_of (front ++ back) n) (if b then word.bits else 0)) (sym e)
          | inr e ↦
              bits_of-between-other n front back word e
              ∙ sym (or-none (bits_of (front ++ back) n)) ∙ ap (λ b. bit_or (bits_of (front ++ back) n) (if b then word.bits else 0)) (sym e)
        ]),
      )

pub grown-at : (passes : ℕ → Bool) (word : Word) (ws : List Word) (place : ℕ) (w r : Word) → IsWordWith passes word → AreWords ws → slice_get ws place ≡ Some w → w.number ≡ word.number
    → r ≡ get_or ws place r → Grown passes ws (set ws place (record { number = r.number; bits = bit_or r.bits word.bits }))
grown-at passes word ws place w r m h at same is_r =
    let is_w : r ≡ w = is_r ∙ get_or_from_slice_get ws place w r at in
    let split = split-at ws place w at in
    let joined : Word = record { number = r.number; bits = bit_or r.bits word.bits } in
    let g = grown-in passes word m (take place ws) (drop (suc place) ws) w joined (subst (λ l. AreWords l) split h) same (ap (λ v. v.number) is_w) (ap (λ v. bit_or v.bits word.bits) is_w) in
    subst (λ l. Grown passes l (set ws place joined)) (sym split) (rw (set-at ws place joined w at) g)

-- the same, written through the slice of the vector
pub grown-through : (passes : ℕ → Bool) (word : Word) (v : SmallVec Word) (shown : List Word) (place : ℕ) (w : Word) → IsWordWith passes word → AreWords v.items → slice_get v.items place ≡ Some w → w.number ≡ word.number → shown ≡ v.items
    → Grown passes v.items (refill (small_vec_len v) v.items (slice_set shown place (record { number = (slice_index_or shown place no_word).number; bits = bit_or (slice_index_or shown place no_word).bits word.bits })))
grown-through passes word v shown place w m h at same is =
    let r : Word = slice_index_or v.items place no_word in
    let joined : Word = record { number = r.number; bits = bit_or r.bits word.bits } in
    let is_r : r ≡ get_or v.items place r = get_or_from_slice_get v.items place w no_word at ∙ sym (get_or_from_slice_get v.items place w r at) in
    let kept = items-with_items v (set v.items place joined) (length-set v.items place joined) in
    rw is (subst (λ l. Grown passes v.items l) (sym kept) (grown-at passes word v.items place w r m h at same is_r))

pub grown-with : (passes : ℕ → Bool) (word : Word) (ws : List Word) (place : ℕ) → IsWordWith passes word → AreWords ws → NumbersBelow word.number (take place ws) → WordsFrom (suc word.number) (drop place ws)
    → Grown passes ws (insert ws place word)
grown-with passes word ws place m h below above =
    let split = sym (take-append-drop place ws) in
    let whole : AreWords (take place ws ++ drop place ws) = subst (λ l. AreWords l) split h in
    subst (λ l. Grown passes l (insert ws place word)) (sym split) (grown-between passes word m (take place ws) (drop place ws) whole (WordsFrom-front 0 (take place ws) (drop place ws) whole) below above)
