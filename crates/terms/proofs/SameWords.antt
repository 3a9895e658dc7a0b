-- Words with the same ordinals are equal.
use Rattle.std.proofs.Common.{◌≡◌, ◌<◌, ◌≤◌, ◌+◌, ◌*◌, ◌∙◌, inl, inr, ℕ, suc, List, [], ◌∷◌, refl, sym, ap, subst, arith, Bool, false, rules, nat_eq, nat_lt}
use Rattle.std.specs.Prelude.{◌↔◌, IsTrue}
use Rattle.std.specs.Bool.{Decides}
use Rattle.std.specs.Cmp.Lexicographic.{pointwise}
use Rattle.std.proofs.lemmas.Bool.{cases_Bool, ne_eqb}
use Rattle.std.proofs.lemmas.Slice.Eq.{slice_eq-Decides}
use Rattle.terms.specs.Sets.{has}
use Rattle.terms.specs.Words.{AreWords, WordsFrom, bits_of, ordinals_of}
use Rattle.terms.proofs.WordBits.{same_bits}
use Rattle.terms.proofs.WordLists.{bits_of-absent, bits_of-below, bits_of-first, has-ordinals_of, has_bit-at}
use Rattle.terms.specs.declared.words.Word.{Word}

bits_of-later : (w : Word) (rest : List Word) (n : ℕ) → w.number < n → bits_of (w ∷ rest) n ≡ bits_of rest n
bits_of-later w rest n lt = let apart : nat_eq w.number n ≡ false = ne_eqb w.number n (λ e. omega (arith, e)) in rw apart refl

same_by_bits : (low : ℕ) (a b : List Word) → WordsFrom low a → WordsFrom low b → ((n : ℕ) → bits_of a n ≡ bits_of b n) → a ≡ b
same_by_bits low [] [] f g h = refl
same_by_bits low [] (y ∷ ys) f g h = let e : 0 ≡ y.bits = h y.number ∙ bits_of-first y ys in absurd (omega (arith, e, g.2))
same_by_bits low (x ∷ xs) [] f g h = let e : 0 ≡ x.bits = sym (h x.number) ∙ bits_of-first x xs in absurd (omega (arith, e, f.2))
same_by_bits low (x ∷ xs) (y ∷ ys) f g h =
    elim (cases_Bool (nat_lt x.number y.number)) [
      | inl lt ↦
          let below : x.number < y.number = search rules in
          let gone : bits_of (y ∷ ys) x.number ≡ 0 = bits_of-absent y.number x.number (y ∷ ys) (omega arith, g.1, g.2, g.3, g.4) below in
          let e : x.bits ≡ 0 = sym (bits_of-first x xs) ∙ h x.number ∙ gone in absurd (omega (arith, e, f.2))
      | inr ge ↦ elim (cases_Bool (nat_lt y.number x.number)) [
        | inl lt ↦
            let below : y.number < x.number = search rules in
            let gone : bits_of (x ∷ xs) y.number ≡ 0 = bits_of-absent x.number y.number (x ∷ xs) (omega arith, f.1, f.2, f.3, f.4) below in
            let e : y.bits ≡ 0 = sym (bits_of-first y ys) ∙ sym (h y.number) ∙ gone in absurd (omega (arith, e, g.2))
        | inr le ↦
            let up : y.number ≤ x.number = search rules in
            let down : x.number ≤ y.number = search rules in
            let number : x.number ≡ y.number = omega (arith, up, down) in
            let bits : x.bits ≡ y.bits = sym (bits_of-first x xs) ∙ h x.number ∙ ap (λ n. bits_of (y ∷ ys) n) number ∙ bits_of-first y ys in
            let first : x ≡ y = λ i. record { number = number i; bits = bits i } in
            let tail : WordsFrom (suc x.number) ys = subst (λ n. WordsFrom (suc n) ys) (sym number) g.4 in
            let rest : (n : ℕ) → bits_of xs n ≡ bits_of ys n = λ n. elim (cases_Bool (nat_lt x.number n)) [
              | inl lt ↦
                  let above : x.number < n = search rules in
                  sym (bits_of-later x xs n above) ∙ h n ∙ bits_of-later y ys n (omega (arith, above, number))
              | inr no_more ↦
                  let le' : n ≤ x.number = search rules in
                  let under : n < suc x.number = omega (arith, le') in
                  bits_of-absent (suc x.number) n xs f.4 under ∙ sym (bits_of-absent (suc x.number) n ys tail under)
            ] in
            (λ i. first i ∷ same_by_bits (suc x.number) xs ys f.4 tail rest i)
      ]
    ]

pub same_words : (a b : List Word) → AreWords a → AreWords b → ordinals_of a ≡ ordinals_of b → a ≡ b
same_words a b f g e = same_by_bits 0 a b f g (λ n. same_bits (bits_of a n) (bits_of b n) (bits_of-below 0 n a f) (bits_of-below 0 n b g)
    (λ i lt. sym (has_bit-at a n i lt) ∙ sym (has-ordinals_of 0 a f (64 * n + i)) ∙ ap (λ l. has l (64 * n + i)) e ∙ has-ordinals_of 0 b g (64 * n + i) ∙ has_bit-at b n i lt))

pub same_tested : (E : Word → Word → Bool) → ((x y : Word) → Decides (E x y) (x ≡ y)) → (a b : List Word) (answer : Bool) → AreWords a → AreWords b → answer ≡ pointwise E a b
    → IsTrue answer ↔ (ordinals_of a ≡ ordinals_of b)
same_tested E decides a b answer f g e =
    let d = slice_eq-Decides decides a b answer e in
    (λ t. ap ordinals_of (d.0 t), λ same. d.1 (same_words a b f g same))
