-- Ordinals of one word that come in together.
use Rattle.std.proofs.Common.{◌≡◌, ◌∙◌, ◌<◌, ◌≤◌, ◌+◌, ◌-◌, ◌/◌, ◌%◌, ◌||◌, ◌∷◌, [], ℕ, Bool, List, length, take, drop, get_or, arith, ap, sym, refl, inl, inr, true, false, nat_eq, if◌then◌else◌}
use Rattle.std.specs.Prelude.{bit_or}
use Rattle.std.proofs.lemmas.Bool.{cases_Bool}
use Rattle.std.proofs.lemmas.Nat.{le_or_l, or_lt}
use Rattle.std.proofs.lemmas.Nat.Bits.{bit_at-zero}
use Rattle.std.proofs.lemmas.List.{get_or-drop, get_or-take, length-drop, length-take, take_more, take_all}
use Rattle.std.proofs.lemmas.List.Folds.{list_any-append}
use Rattle.std.proofs.Math.Bool.{or-false}
use Rattle.terms.specs.Sets.{has}
use Rattle.terms.specs.Words.{AreWords, has_bit, is_bit, ordinals_of}
use Rattle.terms.specs.declared.words.Word.{Word}
use Rattle.terms.specs.declared.merging.Rule.TheVariants as rule
use Rattle.terms.proofs.Inserting.{AreWords-one, IsWordWith}
use Rattle.terms.proofs.WordBits.{kept_bits-keeps}
use Rattle.terms.proofs.WordLists.{nil_ordinals}

or-assoc : (a b c : Bool) → ((a || b) || c) ≡ (a || (b || c))
or-assoc true b c = refl
or-assoc false b c = refl

-- one ordinal more of a list
pub has-more : (xs : List ℕ) (i k x : ℕ) → i < length xs → x ≡ get_or xs i 0 → has (take (i + 1) xs) k ≡ (has (take i xs) k || nat_eq x k)
has-more xs i k x lt is =
    ap (λ l. has l k) (take_more xs i 0 lt) ∙ list_any-append (λ y. nat_eq y k) (take i xs) (get_or xs i 0 ∷ [])
    ∙ ap (λ b. has (take i xs) k || b) (or-false (nat_eq (get_or xs i 0) k) ∙ ap (λ y. nat_eq y k) (sym is))

-- the words so far, and the last one, which has not come in yet, have the first ordinals
pub record AreComing (words : List Word) (last : Word) (ordinals : List ℕ) : Type 0 where
  pub in_order : AreWords words
  pub one : AreWords (last ∷ [])
  pub members : (k : ℕ) → (has (ordinals_of words) k || has_bit (last ∷ []) k) ≡ has ordinals k

either-bit : (a b : Word) (k : ℕ) → AreWords (b ∷ []) → b.number ≡ a.number
    → has_bit (record { number = a.number; bits = bit_or a.bits b.bits } ∷ []) k ≡ (has_bit (a ∷ []) k || has_bit (b ∷ []) k)
either-bit a b k h is =
    elim (cases_Bool (nat_eq a.number (k / 64))) [
      | inl e ↦
          let other : nat_eq b.number (k / 64) ≡ true = ap (λ n. nat_eq n (k / 64)) is ∙ e in
          ap (λ t. is_bit (if t then bit_or a.bits b.bits else 0) (k % 64)) e
          ∙ kept_bits-keeps rule.Either a.bits b.bits (k % 64) h.3 (omega arith)
          ∙ sym (ap (λ t. is_bit (if t then a.bits else 0) (k % 64) || has_bit (b ∷ []) k) e
          ∙ ap (λ t. is_bit a.bits (k % 64) || is_bit (if t then b.bits else 0) (k % 64)) other)
      | inr e ↦
          let other : nat_eq b.number (k / 64) ≡ false = ap (λ n. nat_eq n (k / 64)) is ∙ e in
          let none : is_bit 0 (k % 64) ≡ false = ap (λ n. nat_eq n 1) (bit_at-zero (k % 64)) in
          ap (λ t. is_bit (if t then bit_or a.bits b.bits else 0) (k % 64)) e
          ∙ sym (ap (λ t. is_bit (if t then a.bits else 0) (k % 64) || has_bit (b ∷ []) k) e
          ∙ ap (λ t. t || has_bit (b ∷ []) k) none
          ∙ ap (λ t. is_bit (if t then b.bits else 0) (k % 64)) other)
    ]

module _ (words : List Word) (last word : Word) (xs : List ℕ) (i x : ℕ) (m : AreComing words last (take i xs)) (lt : i < length xs) (is : x ≡ get_or xs i 0) (with : IsWordWith (nat_eq x) word) where
  -- the next ordinal is of the last word
  pub coming-together : word.number ≡ last.number → AreComing words (record { number = last.number; bits = bit_or last.bits word.bits }) (take (i + 1) xs)
  coming-together same = record {
    in_order = m.in_order;
    one = (omega arith, m.one.1, (let le = le_or_l last.bits word.bits in omega (arith, le, m.one.2)), or_lt 64 last.bits word.bits m.one.3 with.fits, tt);
    members = λ k.
        ap (λ b. has (ordinals_of words) k || b) (either-bit last word k (AreWords-one _ word with) same)
        ∙ sym (or-assoc (has (ordinals_of words) k) (has_bit (last ∷ []) k) (has_bit (word ∷ []) k))
        ∙ ap (λ b. b || has_bit (word ∷ []) k) (m.members k) ∙ ap (λ b. has (take i xs) k || b) (with.members k)
        ∙ sym (has-more xs i k x lt is);
  }

  -- it is of another, so the last word has come in
  pub coming-apart : (grown : List Word) → AreWords grown → ((k : ℕ) → has (ordinals_of grown) k ≡ (has (ordinals_of words) k || has_bit (last ∷ []) k))
      → AreComing grown word (take (i + 1) xs)
  coming-apart grown h added = record {
    in_order = h;
    one = AreWords-one _ word with;
    members = λ k.
        ap (λ b. b || has_bit (word ∷ []) k) (added k ∙ m.members k) ∙ ap (λ b. has (take i xs) k || b) (with.members k)
        ∙ sym (has-more xs i k x lt is);
  }

-- the first ordinal
pub coming-begin : (words : List Word) (word : Word) (xs : List ℕ) (x : ℕ) → words ≡ [] → 0 < length xs → x ≡ get_or xs 0 0 → IsWordWith (nat_eq x) word → AreComing words word (take 1 xs)
coming-begin words word xs x none lt is with = record {
  in_order = rw none tt;
  one = AreWords-one _ word with;
  members = λ k.
      ap (λ l. has (ordinals_of l) k || has_bit (word ∷ []) k) none
      ∙ ap (λ l. has l k || has_bit (word ∷ []) k) nil_ordinals
      ∙ with.members k ∙ sym (has-more xs 0 k x lt is);
}

-- an ordinal behind the first
pub behind-first : (xs : List ℕ) (i : ℕ) → i < length (take (length xs - 1) (drop 1 xs)) → (i + 1 < length xs) × (get_or (take (length xs - 1) (drop 1 xs)) i 0 ≡ get_or xs (i + 1) 0)
behind-first xs i lt =
    let few : i < length xs - 1 = omega (arith, lt, length-take (length xs - 1) (drop 1 xs)) in
    (omega arith, get_or-take (length xs - 1) (drop 1 xs) i 0 few ∙ get_or-drop 1 xs i 0 ∙ (let e : 1 + i ≡ i + 1 = omega arith in ap (λ n. get_or xs n 0) e))

pub coming-end : (xs : List ℕ) (i k : ℕ) → length (take (length xs - 1) (drop 1 xs)) ≤ i → 1 ≤ length xs → has (take (i + 1) xs) k ≡ has xs k
coming-end xs i k le some =
    let all : length xs ≤ i + 1 = omega (arith, le, length-take (length xs - 1) (drop 1 xs), length-drop 1 xs) in
    ap (λ l. has l k) (take_all (i + 1) xs all)
