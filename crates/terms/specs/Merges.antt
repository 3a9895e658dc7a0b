-- Two lists of words that are read side by side.
use Rattle.std.specs.Prelude.{◌≡◌, ◌||◌, ◌&&◌, ◌==◌, ℕ, Bool, not, List, [], ◌∷◌, ◌++◌, length, nat_eq, min, if◌then◌else◌, bit_and, bit_or}
use Rattle.std.specs.Int.{bit_not, w64}
use Rattle.terms.specs.Sets.{has}
use Rattle.terms.specs.declared.words.Word.{Word}
use Rattle.terms.specs.declared.merging.Rule.{Rule}
use Rattle.terms.specs.declared.merging.Rule.TheVariants as rule

-- whether an ordinal is kept that is or is not in the one set, and in the other
abbrev pub keeps : Rule → Bool → Bool → Bool
keeps rule.Both a b = a && b
keeps rule.Either a b = a || b
keeps rule.FirstOnly a b = a && not b

-- the set has exactly what the rule keeps of the two
abbrev pub IsKept : Rule → List ℕ → List ℕ → List ℕ → Type 0
IsKept rule first second set = (k : ℕ) → has set k ≡ keeps rule (has first k) (has second k)

-- what the rule keeps is in the first set
abbrev pub IsWithinFirst : Rule → Type 0
IsWithinFirst rule.Both = Unit {0}
IsWithinFirst rule.Either = ⊥
IsWithinFirst rule.FirstOnly = Unit {0}

-- the bits that are kept of two words
abbrev pub kept_bits : Rule → ℕ → ℕ → ℕ
kept_bits rule.Both a b = bit_and a b
kept_bits rule.Either a b = bit_or a b
kept_bits rule.FirstOnly a b = bit_and a (bit_not w64 b)

-- each list is one word, both have one number, and this is what the rule keeps of them, which may be zero
abbrev pub IsOnlyWord : Rule → List Word → List Word → Word → Type 0
IsOnlyWord r first second word =
    (a : ℕ) × (b : ℕ) × (first ≡ record { number = word.number; bits = a } ∷ []) × (second ≡ record { number = word.number; bits = b } ∷ []) × (word.bits ≡ kept_bits r a b)

-- the list with a word at its end, unless the word is zero
abbrev pub pushed : List Word → ℕ → ℕ → List Word
pushed kept number bits = if nat_eq bits 0 then kept else kept ++ record { number = number; bits = bits } ∷ []

-- whether nothing is left to keep, as the ends of the lists tell
abbrev pub is_over : Rule → List Word → List Word → Bool
is_over rule.Both left right = (length left == 0) || (length right == 0)
is_over rule.Either left right = (length left == 0) && (length right == 0)
is_over rule.FirstOnly left right = length left == 0

-- the least number of both lists
abbrev pub least_number : List Word → List Word → ℕ
least_number [] [] = 0
least_number [] (b ∷ others) = b.number
least_number (a ∷ rest) [] = a.number
least_number (a ∷ rest) (b ∷ others) = min a.number b.number

-- the bits of the first word, where it has this number
abbrev pub front_bits : List Word → ℕ → ℕ
front_bits [] number = 0
front_bits (w ∷ rest) number = if nat_eq w.number number then w.bits else 0

-- the words behind the first, where it has this number
abbrev pub behind : List Word → ℕ → List Word
behind [] number = []
behind (w ∷ rest) number = if nat_eq w.number number then rest else w ∷ rest
