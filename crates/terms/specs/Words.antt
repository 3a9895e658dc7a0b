-- Sets of ordinals as words: bit i of the word with number n stands for the ordinal WORD_BITS * n + i.
use Rattle.std.specs.Prelude.{◌≡◌, ◌≤◌, ◌<◌, ◌*◌, ◌/◌, ◌%◌, ◌^◌, ◌++◌, ℕ, zero, suc, Bool, true, false, List, [], ◌∷◌, Some, Result, Ok, Err, length, take, drop, slice_get, nat_eq, if◌then◌else◌}
use Rattle.std.specs.Int.{bit_at}
use Rattle.terms.specs.declared.words.TheConstants.{WORD_BITS}
use Rattle.terms.specs.declared.words.Word.{Word}

-- whether bit i is set
abbrev pub is_bit : ℕ → ℕ → Bool
is_bit bits i = nat_eq (bit_at bits i) 1

-- the list with a number before it, where the test passes
abbrev pub before_if : Bool → ℕ → List ℕ → List ℕ
before_if true k rest = k ∷ rest
before_if false k rest = rest

-- the ordinals base + i for each of the lowest `count` bits that is set, ascending
unfoldable pub bits_from : ℕ → ℕ → ℕ → List ℕ
bits_from zero base bits = []
bits_from (suc count) base bits = before_if (nat_eq (bits % 2) 1) base (bits_from count (suc base) (bits / 2))

-- the ordinals of the words, ascending where the words are
unfoldable pub ordinals_of : List Word → List ℕ
ordinals_of [] = []
ordinals_of (w ∷ rest) = bits_from WORD_BITS (WORD_BITS * w.number) w.bits ++ ordinals_of rest

-- the bits of the word with this number, none where it is not there
abbrev pub bits_of : List Word → ℕ → ℕ
bits_of [] number = 0
bits_of (w ∷ rest) number = if nat_eq w.number number then w.bits else bits_of rest number

-- whether k is in the set
abbrev pub has_bit : List Word → ℕ → Bool
has_bit words k = is_bit (bits_of words (k / WORD_BITS)) (k % WORD_BITS)

-- the lowest 64 bits tell which of the numbers below 64 pass a test
abbrev pub AreLowBits : ℕ → (ℕ → Bool) → Type 0
AreLowBits bits passes = (k : ℕ) → k < 64 → is_bit bits k ≡ passes k

-- numbers rise from low on, no word is zero, and each ordinal has 32 bits
abbrev pub WordsFrom : ℕ → List Word → Type 0
WordsFrom low [] = Unit {0}
WordsFrom low (w ∷ rest) = (low ≤ w.number) × (WORD_BITS * w.number < 2 ^ 32) × (0 < w.bits) × (w.bits < 2 ^ WORD_BITS) × WordsFrom (suc w.number) rest

abbrev pub AreWords : List Word → Type 0
AreWords = WordsFrom 0

-- the numbers are below top
abbrev pub NumbersBelow : ℕ → List Word → Type 0
NumbersBelow top [] = Unit {0}
NumbersBelow top (w ∷ rest) = (w.number < top) × NumbersBelow top rest

-- the word with the number stands at this place, or the words before the place have lower numbers and those from it on higher ones
abbrev pub IsPlace : ℕ → List Word → Result ℕ ℕ → Type 0
IsPlace number words (Ok place) = (word : Word) × (slice_get words place ≡ Some word) × (word.number ≡ number)
IsPlace number words (Err place) = (place ≤ length words) × NumbersBelow number (take place words) × WordsFrom (suc number) (drop place words)

-- words of which an iterator has taken the first ordinals: what is left of one, which may be none, and later ones
pub record IsCursor (word : Word) (rest : List Word) : Type 0 where
  pub small : WORD_BITS * word.number < 2 ^ 32
  pub fits : word.bits < 2 ^ WORD_BITS
  pub words : AreWords rest
