-- Two sets are merged word by word: what is kept so far, and what is left of each.
use Rattle.std.proofs.Common.{◌≡◌, ◌<◌, ◌≤◌, ◌+◌, ◌*◌, ◌/◌, ◌%◌, ◌^◌, ◌∙◌, inl, inr, ℕ, zero, suc, List, [], ◌∷◌, length, refl, sym, ap, subst, arith, Bool, true, false, ◌||◌, ◌&&◌, true≢false, nat_eq, min, if◌then◌else◌}
use Rattle.std.specs.Prelude.{count_ones}
use Rattle.std.specs.Int.{bit_not, trailing_zeros, w64}
use Rattle.std.specs.Int.Bits.{and_zero_l, and_zero_r}
use Rattle.std.proofs.lemmas.Bool.{cases_Bool, eqb-true, ne_eqb}
use Rattle.std.proofs.lemmas.List.{append-nil}
use Rattle.terms.specs.Merges.{IsOnlyWord, behind, front_bits, is_over, keeps, kept_bits, least_number, pushed}
use Rattle.terms.specs.Sets.{has, IsAscending}
use Rattle.terms.specs.Words.{AreWords, NumbersBelow, WordsFrom, bits_of, has_bit, is_bit, ordinals_of}
use lib.Count.{ones}
use Rattle.terms.proofs.Ascending.{nat_eq-itself}
use Rattle.terms.proofs.SameSets.{same_members}
use Rattle.terms.proofs.WordBits.{kept_bits-below, kept_bits-keeps, kept_bits-none, lowest_bit}
use Rattle.terms.proofs.WordLists.{IsAscending-ordinals_of, NumbersBelow-more, NumbersBelow-push, WordsFrom-between, bits_of-absent, bits_of-below, bits_of-between-other, bits_of-between-same, bits_of-past, has-ordinals_of, has_bit-at, length-ordinals_of-bound, length-ordinals_of-push}
use Rattle.terms.specs.declared.words.Word.{Word}
use Rattle.terms.specs.declared.merging.Rule.{Rule}
use Rattle.terms.specs.declared.merging.Rule.TheVariants as rule

-- ---- the least number of two

least-low : (low : ℕ) (left right : List Word) → 0 < length left + length right → WordsFrom low left → WordsFrom low right → low ≤ least_number left right
least-low low [] [] some l r = absurd (omega arith)
least-low low [] (b ∷ others) some l r = r.0
least-low low (a ∷ rest) [] some l r = l.0
least-low low (a ∷ rest) (b ∷ others) some l r = omega (arith, l.0, r.0)

least-small : (low : ℕ) (left right : List Word) → 0 < length left + length right → WordsFrom low left → WordsFrom low right → 64 * least_number left right < 2 ^ 32
least-small low [] [] some l r = absurd (omega arith)
least-small low [] (b ∷ others) some l r = r.1
least-small low (a ∷ rest) [] some l r = l.1
least-small low (a ∷ rest) (b ∷ others) some l r = omega (arith, l.1, r.1)

least-left : (low : ℕ) (left right : List Word) → WordsFrom low left → WordsFrom (least_number left right) left
least-left low [] right h = tt
least-left low (a ∷ rest) [] h = (omega arith, h.1, h.2, h.3, h.4)
least-left low (a ∷ rest) (b ∷ others) h = (omega arith, h.1, h.2, h.3, h.4)

least-right : (low : ℕ) (left right : List Word) → WordsFrom low right → WordsFrom (least_number left right) right
least-right low left [] h = tt
least-right low [] (b ∷ others) h = (omega arith, h.1, h.2, h.3, h.4)
least-right low (a ∷ rest) (b ∷ others) h = (omega arith, h.1, h.2, h.3, h.4)

WordsFrom-behind : (k : ℕ) (ws : List Word) → WordsFrom k ws → WordsFrom (suc k) (behind ws k)
WordsFrom-behind k [] h = tt
WordsFrom-behind k (w ∷ rest) h = elim (cases_Bool (nat_eq w.number k)) [
  | inl e ↦ let same : w.number ≡ k = eqb-true w.number k e in rw e (subst (λ y. WordsFrom (suc y) rest) same h.4)
  | inr e ↦
      let apart : w.number ≡ k → ⊥ = λ same. true≢false (sym (nat_eq-itself k) ∙ ap (λ y. nat_eq y k) (sym same) ∙ e) in
      let more : suc k ≤ w.number = omega (arith, h.0, apart) in
      rw e (more, h.1, h.2, h.3, h.4)
]

bits_of-front : (k : ℕ) (ws : List Word) → WordsFrom k ws → bits_of ws k ≡ front_bits ws k
bits_of-front k [] h = refl
bits_of-front k (w ∷ rest) h = ap (λ b. if nat_eq w.number k then w.bits else b) (bits_of-absent (suc w.number) k rest h.4 (omega (arith, h.0)))

bits_of-behind : (k n : ℕ) (ws : List Word) → nat_eq k n ≡ false → bits_of (behind ws k) n ≡ bits_of ws n
bits_of-behind k n [] h = refl
bits_of-behind k n (w ∷ rest) h = elim (cases_Bool (nat_eq w.number k)) [
  | inl e ↦ let same : w.number ≡ k = eqb-true w.number k e in
      let other : nat_eq w.number n ≡ false = ap (λ y. nat_eq y n) same ∙ h in
      rw (e, other) refl
  | inr e ↦ rw e refl
]

front-below : (low number : ℕ) (ws : List Word) → WordsFrom low ws → front_bits ws number < 2 ^ 64
front-below low number [] h = omega arith
front-below low number (w ∷ rest) h = elim (cases_Bool (nat_eq w.number number)) [ inl e ↦ rw e h.3 | inr e ↦ rw e (omega arith) ]

-- ---- one turn

-- `kept` has what the rule keeps of the two, but for what is left of each
pub record IsMerging (r : Rule) (first second kept left right : List Word) : Type 0 where
  pub low : ℕ
  pub words : AreWords kept
  pub ends : NumbersBelow low kept
  pub on_left : WordsFrom low left
  pub on_right : WordsFrom low right
  pub bits : (n : ℕ) → bits_of kept n + kept_bits r (bits_of left n) (bits_of right n) ≡ kept_bits r (bits_of first n) (bits_of second n)

pub begin : (r : Rule) (first second : List Word) → AreWords first → AreWords second → IsMerging r first second [] first second
begin r first second f s = record { low = 0; words = tt; ends = tt; on_left = f; on_right = s; bits = λ n. omega arith }

pushed-zero : (kept : List Word) (number bits : ℕ) → bits ≡ 0 → pushed kept number bits ≡ kept
pushed-zero kept number bits e = ap (λ b. pushed kept number b) e

positive : (bits : ℕ) → nat_eq bits 0 ≡ false → 0 < bits
positive zero e = absurd (true≢false e)
positive (suc n) e = omega arith

pushed-words : (low number bits : ℕ) (kept : List Word) → AreWords kept → NumbersBelow low kept → low ≤ number → 64 * number < 2 ^ 32 → bits < 2 ^ 64 → AreWords (pushed kept number bits)
pushed-words low number bits kept h ends le small fits = elim (cases_Bool (nat_eq bits 0)) [
  | inl e ↦ rw e h
  | inr e ↦ rw e (WordsFrom-between 0 kept [] (record { number = number; bits = bits }) h (NumbersBelow-more low number kept ends le) tt (omega arith) small (positive bits e) fits)
]

pushed-ends : (low number bits : ℕ) (kept : List Word) → NumbersBelow low kept → low ≤ number → NumbersBelow (suc number) (pushed kept number bits)
pushed-ends low number bits kept ends le = elim (cases_Bool (nat_eq bits 0)) [
  | inl e ↦ rw e (NumbersBelow-more low (suc number) kept ends (omega arith))
  | inr e ↦ rw e (NumbersBelow-push low (suc number) kept (record { number = number; bits = bits }) ends (omega arith) (omega arith))
]

pushed-same : (low number bits : ℕ) (kept : List Word) → NumbersBelow low kept → low ≤ number → bits_of (pushed kept number bits) number ≡ bits
pushed-same low number bits kept ends le = elim (cases_Bool (nat_eq bits 0)) [
  | inl e ↦ rw e (bits_of-past low number kept ends le ∙ sym (eqb-true bits 0 e))
  | inr e ↦ rw e (bits_of-between-same kept [] (record { number = number; bits = bits }) (NumbersBelow-more low number kept ends le))
]

pushed-other : (n number bits : ℕ) (kept : List Word) → nat_eq number n ≡ false → bits_of (pushed kept number bits) n ≡ bits_of kept n
pushed-other n number bits kept apart = elim (cases_Bool (nat_eq bits 0)) [
  | inl e ↦ rw e refl
  | inr e ↦ rw e (bits_of-between-other n kept [] (record { number = number; bits = bits }) apart ∙ ap (λ l. bits_of l n) (append-nil kept))
]

module _ (r : Rule) (first second kept left right : List Word) (m : IsMerging r first second kept left right) (some : 0 < length left + length right) where
  pub step : IsMerging r first second (pushed kept (least_number left right) (kept_bits r (front_bits left (least_number left right)) (front_bits right (least_number left right)))) (behind left (least_number left right)) (behind right (least_number left right))
  step =
      let k = least_number left right in
      let le : m.low ≤ k = least-low m.low left right some m.on_left m.on_right in
      let small : 64 * k < 2 ^ 32 = least-small m.low left right some m.on_left m.on_right in
      let on_left = least-left m.low left right m.on_left in
      let on_right = least-right m.low left right m.on_right in
      let after_left = WordsFrom-behind k left on_left in
      let after_right = WordsFrom-behind k right on_right in
      let front_left : bits_of left k ≡ front_bits left k = bits_of-front k left on_left in
      let front_right : bits_of right k ≡ front_bits right k = bits_of-front k right on_right in
      let fits_left : front_bits left k < 2 ^ 64 = subst (λ b. b < 2 ^ 64) front_left (bits_of-below m.low k left m.on_left) in
      let fits_right : front_bits right k < 2 ^ 64 = subst (λ b. b < 2 ^ 64) front_right (bits_of-below m.low k right m.on_right) in
      let bits = kept_bits r (front_bits left k) (front_bits right k) in
      let fits : bits < 2 ^ 64 = kept_bits-below r (front_bits left k) (front_bits right k) fits_left fits_right in
      record {
        low = suc k;
        words = pushed-words m.low k bits kept m.words m.ends le small fits;
        ends = pushed-ends m.low k bits kept m.ends le;
        on_left = after_left;
        on_right = after_right;
        bits = λ n. elim (cases_Bool (nat_eq k n)) [
          | inl e ↦
              let same : k ≡ n = eqb-true k n e in
              let none_left : bits_of (behind left k) k ≡ 0 = bits_of-absent (suc k) k (behind left k) after_left (omega arith) in
              let none_right : bits_of (behind right k) k ≡ 0 = bits_of-absent (suc k) k (behind right k) after_right (omega arith) in
              let now : bits_of (pushed kept k bits) k ≡ bits = pushed-same m.low k bits kept m.ends le in
              let past : bits_of kept k ≡ 0 = bits_of-past m.low k kept m.ends le in
              let none : kept_bits r (bits_of (behind left k) k) (bits_of (behind right k) k) ≡ 0 =
              ap (λ b. kept_bits r b (bits_of (behind right k) k)) none_left ∙ ap (λ b. kept_bits r 0 b) none_right ∙ kept_bits-none r in
              let whole : bits ≡ kept_bits r (bits_of left k) (bits_of right k) =
              ap (λ b. kept_bits r b (front_bits right k)) (sym front_left) ∙ ap (λ b. kept_bits r (bits_of left k) b) (sym front_right) in
              let before = m.bits k in
              let here : bits_of (pushed kept k bits) k + kept_bits r (bits_of (behind left k) k) (bits_of (behind right k) k) ≡ kept_bits r (bits_of first k) (bits_of second k) =
              omega (arith, now, none, whole, past, before) in
              subst (λ j. bits_of (pushed kept k bits) j + kept_bits r (bits_of (behind left k) j) (bits_of (behind right k) j) ≡ kept_bits r (bits_of first j) (bits_of second j)) same here
          | inr e ↦ rw (pushed-other n k bits kept e, bits_of-behind k n left e, bits_of-behind k n right e) (m.bits n)
        ];
      }

-- what the calls of one turn answer
pub said : (r : Rule) (left right : List Word) (number on_left on_right bits : ℕ) → number ≡ least_number left right → on_left ≡ front_bits left number → on_right ≡ front_bits right number → bits ≡ kept_bits r on_left on_right
    → bits ≡ kept_bits r (front_bits left (least_number left right)) (front_bits right (least_number left right))
said r left right number on_left on_right bits is_least is_on_left is_on_right is_bits =
    is_bits ∙ ap (λ b. kept_bits r b on_right) is_on_left ∙ ap (λ b. kept_bits r (front_bits left number) b) is_on_right ∙ ap (λ j. kept_bits r (front_bits left j) (front_bits right j)) is_least

-- one turn of the loop, by what its calls answer
module _ (r : Rule) (first second kept left right : List Word) (m : IsMerging r first second kept left right) (some : 0 < length left + length right)
    (number on_left on_right bits : ℕ) (kept' left' right' : List Word)
    (is_least : number ≡ least_number left right) (is_on_left : on_left ≡ front_bits left number) (is_on_right : on_right ≡ front_bits right number) (is_bits : bits ≡ kept_bits r on_left on_right)
    (is_left : left' ≡ behind left number) (is_right : right' ≡ behind right number) where
  pub turn : kept' ≡ pushed kept number bits → IsMerging r first second kept' left' right'
  turn is_kept = rw (is_kept, is_left, is_right, said r left right number on_left on_right bits is_least is_on_left is_on_right is_bits, is_least) (step r first second kept left right m some)

  pub turn_left_out : bits ≡ 0 → kept' ≡ kept → IsMerging r first second kept' left' right'
  turn_left_out e is_kept = turn (is_kept ∙ sym (pushed-zero kept number bits e))

-- ---- at the end

not_nil : (w : Word) (rest : List Word) → nat_eq (length (w ∷ rest)) 0 ≡ false
not_nil w rest = ne_eqb (length (w ∷ rest)) 0 (λ e. omega (arith, e))

either-false : (a b : Bool) → a ≡ false → b ≡ false → (a || b) ≡ true → ⊥
either-false a b e f h = true≢false (sym h ∙ ap (λ x. x || b) e ∙ f)

both-false : (a b : Bool) → a ≡ false → (a && b) ≡ true → ⊥
both-false a b e h = true≢false (sym h ∙ ap (λ x. x && b) e)

-- where a merge is over, nothing more would be kept
over-none : (r : Rule) (left right : List Word) → is_over r left right ≡ true → (n : ℕ) → kept_bits r (bits_of left n) (bits_of right n) ≡ 0
over-none rule.Both [] right e n = and_zero_l (bits_of right n)
over-none rule.Both (w ∷ rest) [] e n = and_zero_r (bits_of (w ∷ rest) n)
over-none rule.Both (w ∷ rest) (v ∷ others) e n = absurd (either-false (nat_eq (length (w ∷ rest)) 0) (nat_eq (length (v ∷ others)) 0) (not_nil w rest) (not_nil v others) e)
over-none rule.Either [] [] e n = kept_bits-none rule.Either
over-none rule.Either [] (v ∷ others) e n = absurd (true≢false (sym e ∙ not_nil v others))
over-none rule.Either (w ∷ rest) right e n = absurd (both-false (nat_eq (length (w ∷ rest)) 0) (nat_eq (length right) 0) (not_nil w rest) e)
over-none rule.FirstOnly [] right e n = and_zero_l (bit_not w64 (bits_of right n))
over-none rule.FirstOnly (w ∷ rest) right e n = absurd (true≢false (sym e ∙ not_nil w rest))

-- where it is not, there is a word more
pub some-left : (r : Rule) (left right : List Word) → is_over r left right ≡ false → 0 < length left + length right
some-left rule.Both [] right e = absurd (true≢false e)
some-left rule.Either [] [] e = absurd (true≢false e)
some-left rule.Either [] (v ∷ others) e = omega arith
some-left rule.FirstOnly [] right e = absurd (true≢false e)
some-left r (w ∷ rest) right e = omega arith

bits-end : (r : Rule) (first second kept left right : List Word) → IsMerging r first second kept left right → is_over r left right ≡ true
    → (n : ℕ) → bits_of kept n ≡ kept_bits r (bits_of first n) (bits_of second n)
bits-end r first second kept left right m over n = omega (arith, m.bits n, over-none r left right over n)

pub members-from_bits : (r : Rule) (first second kept : List Word) → AreWords second → ((n : ℕ) → bits_of kept n ≡ kept_bits r (bits_of first n) (bits_of second n))
    → (k : ℕ) → has_bit kept k ≡ keeps r (has_bit first k) (has_bit second k)
members-from_bits r first second kept s h k =
    ap (λ b. is_bit b (k % 64)) (h (k / 64))
    ∙ kept_bits-keeps r (bits_of first (k / 64)) (bits_of second (k / 64)) (k % 64) (bits_of-below 0 (k / 64) second s) (omega arith)

pub kept_ordinals : (r : Rule) (first second kept : List Word) → AreWords first → AreWords second → AreWords kept
    → ((n : ℕ) → bits_of kept n ≡ kept_bits r (bits_of first n) (bits_of second n))
    → (k : ℕ) → has (ordinals_of kept) k ≡ keeps r (has (ordinals_of first) k) (has (ordinals_of second) k)
kept_ordinals r first second kept f s t h k =
    has-ordinals_of 0 kept t k ∙ members-from_bits r first second kept s h k
    ∙ ap (λ b. keeps r b (has_bit second k)) (sym (has-ordinals_of 0 first f k))
    ∙ ap (λ b. keeps r (has (ordinals_of first) k) b) (sym (has-ordinals_of 0 second s k))

pub merged : (r : Rule) (first second kept left right : List Word) → AreWords first → AreWords second → IsMerging r first second kept left right → is_over r left right ≡ true
    → (k : ℕ) → has (ordinals_of kept) k ≡ keeps r (has (ordinals_of first) k) (has (ordinals_of second) k)
merged r first second kept left right f s m over = kept_ordinals r first second kept f s m.words (bits-end r first second kept left right m over)

pub no_ordinals : (k : ℕ) → has (ordinals_of []) k ≡ false
unfolding ordinals_of
no_ordinals k = refl

pub none-kept : (r : Rule) (first second left right : List Word) → AreWords first → AreWords second → IsMerging r first second [] left right → is_over r left right ≡ true
    → (k : ℕ) → keeps r (has (ordinals_of first) k) (has (ordinals_of second) k) ≡ false
none-kept r first second left right f s m over k = sym (merged r first second [] left right f s m over k) ∙ no_ordinals k

-- ---- the first that is kept

module _ (r : Rule) (first second left right : List Word) (f : AreWords first) (s : AreWords second) (m : IsMerging r first second [] left right) (some : 0 < length left + length right)
    (number on_left on_right bits : ℕ) (is_least : number ≡ least_number left right) (is_on_left : on_left ≡ front_bits left number) (is_on_right : on_right ≡ front_bits right number)
    (is_bits : bits ≡ kept_bits r on_left on_right) (h : bits ≡ 0 → ⊥) where
  -- nothing was kept before, so these are the bits that are kept of both sets
  whole : bits ≡ kept_bits r (bits_of first number) (bits_of second number)
  whole =
      let n = least_number left right in
      let front_left : bits_of left n ≡ front_bits left n = bits_of-front n left (least-left m.low left right m.on_left) in
      let front_right : bits_of right n ≡ front_bits right n = bits_of-front n right (least-right m.low left right m.on_right) in
      let left_over : kept_bits r (bits_of left n) (bits_of right n) ≡ kept_bits r (bits_of first n) (bits_of second n) = omega (arith, m.bits n) in
      said r left right number on_left on_right bits is_least is_on_left is_on_right is_bits
      ∙ ap (λ b. kept_bits r b (front_bits right n)) (sym front_left) ∙ ap (λ b. kept_bits r (bits_of left n) b) (sym front_right) ∙ left_over
      ∙ ap (λ n. kept_bits r (bits_of first n) (bits_of second n)) (sym is_least)

  small : (64 * number < 2 ^ 32) × (bits < 2 ^ 64)
  small = (
    let lt = least-small m.low left right some m.on_left m.on_right in omega (arith, lt, is_least),
    let lt = kept_bits-below r (bits_of first number) (bits_of second number) (bits_of-below 0 number first f) (bits_of-below 0 number second s) in omega (arith, whole, lt),
  )

  pub first-kept : keeps r (has (ordinals_of first) (number * 64 + trailing_zeros w64 bits)) (has (ordinals_of second) (number * 64 + trailing_zeros w64 bits)) ≡ true
  first-kept =
      let i = trailing_zeros w64 bits in
      let b = lowest_bit bits (omega (arith, h)) small.1 in
      let at : number * 64 + i ≡ 64 * number + i = omega arith in
      let kept = kept_bits-keeps r (bits_of first number) (bits_of second number) i (bits_of-below 0 number second s) b.0 in
      subst (λ k. keeps r (has (ordinals_of first) k) (has (ordinals_of second) k) ≡ true) (sym at)
      (ap (λ b. keeps r b (has (ordinals_of second) (64 * number + i))) (has-ordinals_of 0 first f (64 * number + i) ∙ has_bit-at first number i b.0)
      ∙ ap (λ b. keeps r (is_bit (bits_of first number) i) b) (has-ordinals_of 0 second s (64 * number + i) ∙ has_bit-at second number i b.0)
      ∙ sym kept ∙ ap (λ b. is_bit b i) (sym whole) ∙ b.1)

-- ---- the count of what is kept

-- as many were counted as the words that would have been kept so far have ordinals
pub record IsCountingKept (r : Rule) (first second left right : List Word) (total : ℕ) : Type 0 where
  pub kept : List Word
  pub merging : IsMerging r first second kept left right
  pub is_total : total ≡ length (ordinals_of kept)

no_length : 0 ≡ length (ordinals_of [])
unfolding ordinals_of
no_length = refl

pub counting-begin : (r : Rule) (first second : List Word) → AreWords first → AreWords second → IsCountingKept r first second first second 0
counting-begin r first second f s = record { kept = []; merging = begin r first second f s; is_total = no_length }

no_ones : count_ones 0 ≡ 0
unfolding ones
no_ones = refl

length-pushed : (number bits : ℕ) (kept : List Word) → bits < 2 ^ 64 → length (ordinals_of (pushed kept number bits)) ≡ length (ordinals_of kept) + count_ones bits
length-pushed number bits kept lt = elim (cases_Bool (nat_eq bits 0)) [
  | inl e ↦ rw e (let none : bits ≡ 0 = eqb-true bits 0 e in omega (arith, ap count_ones none, no_ones))
  | inr e ↦ rw e (length-ordinals_of-push kept (record { number = number; bits = bits }) lt)
]

module _ (r : Rule) (first second left right : List Word) (total : ℕ) (m : IsCountingKept r first second left right total) (some : 0 < length left + length right)
    (number on_left on_right bits : ℕ) (is_least : number ≡ least_number left right) (is_on_left : on_left ≡ front_bits left number) (is_on_right : on_right ≡ front_bits right number)
    (is_bits : bits ≡ kept_bits r on_left on_right) where
  next : IsMerging r first second (pushed m.kept number bits) (behind left number) (behind right number)
  next =
      turn r first second m.kept left right m.merging some number on_left on_right bits (pushed m.kept number bits) (behind left number) (behind right number)
      is_least is_on_left is_on_right is_bits refl refl refl

  fits : bits < 2 ^ 64
  fits =
      let left_fits : on_left < 2 ^ 64 = rw is_on_left (front-below m.merging.low number left m.merging.on_left) in
      let right_fits : on_right < 2 ^ 64 = rw is_on_right (front-below m.merging.low number right m.merging.on_right) in
      rw is_bits (kept_bits-below r on_left on_right left_fits right_fits)

  counted : total + count_ones bits ≡ length (ordinals_of (pushed m.kept number bits))
  counted = omega (arith, m.is_total, length-pushed number bits m.kept fits)

  pub counting-fits : total + count_ones bits < 2 ^ 64
  counting-fits = let bound = length-ordinals_of-bound 0 (pushed m.kept number bits) next.words (omega arith) in omega (arith, bound, counted)

  pub counting-turn : (left' right' : List Word) → left' ≡ behind left number → right' ≡ behind right number → IsCountingKept r first second left' right' (total + count_ones bits)
  counting-turn left' right' is_left is_right = rw (is_left, is_right) (record { kept = pushed m.kept number bits; merging = next; is_total = counted })

pub counting-end : (r : Rule) (first second left right : List Word) (total : ℕ) → AreWords first → AreWords second → IsCountingKept r first second left right total → is_over r left right ≡ true
    → (set : List ℕ) → IsAscending set → ((k : ℕ) → has set k ≡ keeps r (has (ordinals_of first) k) (has (ordinals_of second) k)) → total ≡ length set
counting-end r first second left right total f s m over set ascending h =
    m.is_total ∙ ap length (same_members 0 (ordinals_of m.kept) set (IsAscending-ordinals_of m.kept m.merging.words) ascending
    (λ k. merged r first second m.kept left right f s m.merging over k ∙ sym (h k)))

-- ---- one word each

over-nil : (r : Rule) → is_over r [] [] ≡ true
over-nil rule.Both = refl
over-nil rule.Either = refl
over-nil rule.FirstOnly = refl

front-only : (number bits : ℕ) → bits ≡ front_bits (record { number = number; bits = bits } ∷ []) number
front-only number bits = rw (nat_eq-itself number) refl

behind-only : (number bits : ℕ) → [] ≡ behind (record { number = number; bits = bits } ∷ []) number
behind-only number bits = rw (nat_eq-itself number) refl

-- one turn of the loop takes both words
module _ (r : Rule) (first second : List Word) (word : Word) (f : AreWords first) (s : AreWords second) (w : IsOnlyWord r first second word) where
  is_least : word.number ≡ least_number first second
  is_least =
      let same : word.number ≡ min word.number word.number = omega arith in
      same ∙ ap (λ l. least_number l (record { number = word.number; bits = w.1 } ∷ [])) (sym w.2) ∙ ap (λ l. least_number first l) (sym w.3)

  on_left : w.0 ≡ front_bits first word.number
  on_left = front-only word.number w.0 ∙ ap (λ l. front_bits l word.number) (sym w.2)

  on_right : w.1 ≡ front_bits second word.number
  on_right = front-only word.number w.1 ∙ ap (λ l. front_bits l word.number) (sym w.3)

  none_left : [] ≡ behind first word.number
  none_left = behind-only word.number w.0 ∙ ap (λ l. behind l word.number) (sym w.2)

  none_right : [] ≡ behind second word.number
  none_right = behind-only word.number w.1 ∙ ap (λ l. behind l word.number) (sym w.3)

  some : 0 < length first + length second
  some = omega (arith, ap length w.2)

  only-merging : (kept : List Word) → kept ≡ pushed [] word.number word.bits → IsMerging r first second kept [] []
  only-merging kept is_kept =
      turn r first second [] first second (begin r first second f s) some word.number w.0 w.1 word.bits kept [] [] is_least on_left on_right w.4 none_left none_right is_kept

  pub only-kept : (kept : List Word) → kept ≡ pushed [] word.number word.bits → (k : ℕ) → has (ordinals_of kept) k ≡ keeps r (has (ordinals_of first) k) (has (ordinals_of second) k)
  only-kept kept is_kept = merged r first second kept [] [] f s (only-merging kept is_kept) (over-nil r)

  pub only-none : word.bits ≡ 0 → (k : ℕ) → keeps r (has (ordinals_of first) k) (has (ordinals_of second) k) ≡ false
  only-none e = none-kept r first second [] [] f s (only-merging [] (sym (pushed-zero [] word.number word.bits e))) (over-nil r)

  pub only-first : (word.bits ≡ 0 → ⊥) → keeps r (has (ordinals_of first) (word.number * 64 + trailing_zeros w64 word.bits)) (has (ordinals_of second) (word.number * 64 + trailing_zeros w64 word.bits)) ≡ true
  only-first = first-kept r first second first second f s (begin r first second f s) some word.number w.0 w.1 word.bits is_least on_left on_right w.4

  pub only-counted : (set : List ℕ) → IsAscending set → ((k : ℕ) → has set k ≡ keeps r (has (ordinals_of first) k) (has (ordinals_of second) k)) → count_ones word.bits ≡ length set
  only-counted =
      let counted = counting-turn r first second first second 0 (counting-begin r first second f s) some word.number w.0 w.1 word.bits is_least on_left on_right w.4 [] [] none_left none_right in
      let plain : 0 + count_ones word.bits ≡ count_ones word.bits = omega arith in
      counting-end r first second [] [] (count_ones word.bits) f s (subst (λ n. IsCountingKept r first second [] [] n) plain counted) (over-nil r)
