-- An iterator over words: what it gives next, and what is left.
use Rattle.std.proofs.Common.{◌≡◌, ◌<◌, ◌+◌, ◌-◌, ◌*◌, ◌^◌, ◌∙◌, ℕ, suc, List, [], ◌∷◌, ◌++◌, length, sym, ap, subst, ◌≤◌, arith}
use Rattle.std.specs.Prelude.{bit_and}
use Rattle.std.specs.Int.{trailing_zeros, w64}
use Rattle.terms.specs.Words.{AreWords, IsCursor, WordsFrom, bits_from, ordinals_of}
use Rattle.terms.proofs.WordBits.{bits_from-next, bits_from-none}
use Rattle.terms.specs.declared.words.Word.{Word}

-- a word without bits has no ordinal
pub ordinals_of-spent : (word : Word) (rest : List Word) → word.bits ≡ 0 → ordinals_of (word ∷ rest) ≡ ordinals_of rest
unfolding ordinals_of
ordinals_of-spent word rest e = ap (λ b. bits_from 64 (64 * word.number) b ++ ordinals_of rest) e ∙ ap (λ l. l ++ ordinals_of rest) (bits_from-none 64 (64 * word.number))

pub ordinals_of-none : (word : Word) (rest : List Word) → word.bits ≡ 0 → length rest ≡ 0 → ordinals_of (word ∷ rest) ≡ []
unfolding ordinals_of
ordinals_of-none word [] e n = ordinals_of-spent word [] e
ordinals_of-none word (w ∷ others) e n = absurd (omega (arith, n))

WordsFrom-lower : (low high : ℕ) (ws : List Word) → low ≤ high → WordsFrom high ws → WordsFrom low ws
WordsFrom-lower low high [] le h = tt
WordsFrom-lower low high (w ∷ rest) le h = (omega (arith, h.0), h.1, h.2, h.3, h.4)

-- the next word is at hand
pub next-same : (word w : Word) (rest others : List Word) → word.bits ≡ 0 → rest ≡ w ∷ others → ordinals_of (w ∷ others) ≡ ordinals_of (word ∷ rest)
next-same word w rest others e split = ap (λ l. ordinals_of l) (sym split) ∙ sym (ordinals_of-spent word rest e)

pub next-cursor : (w : Word) (rest others : List Word) → AreWords rest → rest ≡ w ∷ others → IsCursor w others
next-cursor w rest others h split =
    let p : AreWords (w ∷ others) = subst (λ l. AreWords l) split h in
    record { small = p.1; fits = p.3; words = WordsFrom-lower 0 (suc w.number) others (omega arith) p.4 }

-- the lowest ordinal comes first
pub ordinals_of-next : (word : Word) (rest : List Word) → 0 < word.bits → word.bits < 2 ^ 64
    → ordinals_of (word ∷ rest) ≡ (word.number * 64 + trailing_zeros w64 word.bits) ∷ ordinals_of (record { number = word.number; bits = bit_and word.bits (word.bits - 1) } ∷ rest)
unfolding ordinals_of
ordinals_of-next word rest some lt =
    let at : 64 * word.number + trailing_zeros w64 word.bits ≡ word.number * 64 + trailing_zeros w64 word.bits = omega arith in
    ap (λ l. l ++ ordinals_of rest) (bits_from-next (64 * word.number) word.bits some lt)
    ∙ ap (λ k. k ∷ (bits_from 64 (64 * word.number) (bit_and word.bits (word.bits - 1)) ++ ordinals_of rest)) at
