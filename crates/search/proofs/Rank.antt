-- The rank falls with each turn of a search.
use Rattle.std.proofs.Common.{◌≡◌, ◌<◌, ◌≤◌, ◌+◌, ◌*◌, ◌∙◌, ℕ, refl, sym, ap, arith, true, false, List, [], ◌∷◌, ◌++◌, inl, inr, nat_le}
use Rattle.std.proofs.lemmas.Bool.{cases_Bool, le-leb, lt-leb}
use Rattle.std.proofs.lemmas.List.{append-nil}
use Rattle.std.specs.Prelude.{Option}
use Rattle.search.specs.declared.assignment.Assignment.{Assignment}
use Rattle.search.specs.Assignments.{says, is_decision, decisions, upto, LevelsFrom}
use Rattle.terms.specs.Terms.{true_of}
use Rattle.search.specs.Rank.{choices, left, digit, base, rank_within}
use Rattle.search.proofs.Counting.{choices-le, choices-lt, choices-bound, IsCounted, sum-lt, sum-bound, number-lt}
use Rattle.search.proofs.Saying.{says-push_fewer, says-push_own, upto-append, upto-upto, decisions-upto, decisions-append}

pub left-lt : (bound n : ℕ) (more fewer : List Assignment) → ((p : ℕ) (c : Option ℕ) → says more p c ≡ true → says fewer p c ≡ true)
    → (q : ℕ) (c : Option ℕ) → q < n → IsCounted bound c → says more q c ≡ false → says fewer q c ≡ true → left bound n more < left bound n fewer
unfolding left
left-lt bound n more fewer h q c lt counted e e' =
    sum-lt (λ p. choices bound (says more p)) (λ p. choices bound (says fewer p)) (λ p. choices-le bound (says more p) (says fewer p) (h p))
    n q lt (choices-lt bound (says more q) (says fewer q) (h q) c counted e e')

pub left-bound : (bound n : ℕ) (made : List Assignment) → left bound n made ≤ n * (bound + 1)
unfolding left
left-bound bound n made = sum-bound (λ p. choices bound (says made p)) (bound + 1) (λ p. choices-bound bound (says made p)) n

digit-small : (bound n : ℕ) (made : List Assignment) (l : ℕ) → digit bound n made l < base bound n
unfolding digit base
digit-small bound n made l = elim (cases_Bool (nat_le l (decisions made))) [
  | inl e ↦ rw e (omega (arith, left-bound bound n (upto l made)))
  | inr e ↦ rw e (omega arith)
]

digit-opened : (bound n : ℕ) (made : List Assignment) (l : ℕ) → l ≤ decisions made → digit bound n made l ≡ left bound n (upto l made)
unfolding digit
digit-opened bound n made l le = rw (le-leb l (decisions made) le) refl

digit-closed : (bound n : ℕ) (made : List Assignment) (l : ℕ) → decisions made < l → digit bound n made l ≡ n * (bound + 1) + 1
unfolding digit
digit-closed bound n made l lt = rw (lt-leb l (decisions made) lt) refl

-- one assignment more of a level leaves the lower levels made they were
upto-push_below : (l : ℕ) (made : List Assignment) (a : Assignment) → l < a.level → upto l (made ++ a ∷ []) ≡ upto l made
upto-push_below l made a lt = upto-append l made (a ∷ []) ∙ rw (lt-leb a.level l lt) (append-nil (upto l made))

upto-push_at : (l : ℕ) (made : List Assignment) (a : Assignment) → a.level ≡ l → upto l (made ++ a ∷ []) ≡ upto l made ++ a ∷ []
upto-push_at l made a e = upto-append l made (a ∷ []) ∙ rw (le-leb a.level l (omega (arith, e))) refl

-- going back to an open level and deriving there what takes a choice away
pub rank_within-falls_back : (bound n b : ℕ) (made : List Assignment) (a : Assignment) (c : Option ℕ)
    → LevelsFrom 0 made → b ≤ decisions made → decisions made ≤ n → a.level ≡ b → is_decision a ≡ false → a.pkg < n → IsCounted bound c
    → says (upto b made) a.pkg c ≡ true → true_of a.term c ≡ false
    → rank_within bound n (upto b made ++ a ∷ []) < rank_within bound n made
unfolding rank_within
rank_within-falls_back bound n b made a c levels opened few level derived within counted says_so not_so =
    let new = upto b made ++ a ∷ [] in
    let kept : decisions (upto b made) ≡ b = omega (arith, decisions-upto b 0 made levels (omega arith) (omega arith)) in
    let still : decisions new ≡ b =
    decisions-append (upto b made) (a ∷ []) ∙ rw (kept, derived) (omega arith) in
    number-lt (base bound n) (digit bound n new) (digit bound n made) (n + 2) b (omega arith)
    (λ l lt.
    let same : upto l new ≡ upto l made = upto-push_below l (upto b made) a (omega (arith, level)) ∙ upto-upto l b made (omega arith) in
    digit-opened bound n new l (omega (arith, still)) ∙ ap (left bound n) same ∙ sym (digit-opened bound n made l (omega arith)))
    (let at : upto b new ≡ new = upto-push_at b (upto b made) a level ∙ ap (λ xs. xs ++ a ∷ []) (upto-upto b b made (omega arith)) in
    let fewer : left bound n new < left bound n (upto b made) =
    left-lt bound n new (upto b made) (λ p d h. says-push_fewer (upto b made) a p d h) a.pkg c within counted
    (says-push_own (upto b made) a a.pkg c refl ∙ rw (not_so, says_so) refl) says_so in
    rw (digit-opened bound n new b (omega (arith, still)), at, digit-opened bound n made b opened) fewer)
    (λ l. digit-small bound n new l)

-- a decision opens a level
pub rank_within-falls_deeper : (bound n : ℕ) (made : List Assignment) (a : Assignment)
    → LevelsFrom 0 made → decisions made + 1 ≤ n → a.level ≡ decisions made + 1 → is_decision a ≡ true
    → rank_within bound n (made ++ a ∷ []) < rank_within bound n made
unfolding rank_within
rank_within-falls_deeper bound n made a levels few level decided =
    let new = made ++ a ∷ [] in
    let deeper : decisions new ≡ decisions made + 1 =
    decisions-append made (a ∷ []) ∙ rw decided (omega arith) in
    number-lt (base bound n) (digit bound n new) (digit bound n made) (n + 2) (decisions made + 1) (omega arith)
    (λ l lt.
    let same : upto l new ≡ upto l made = upto-push_below l made a (omega (arith, level, lt)) in
    digit-opened bound n new l (omega (arith, deeper, lt)) ∙ ap (left bound n) same ∙ sym (digit-opened bound n made l (omega (arith, lt))))
    (rw (digit-opened bound n new (decisions made + 1) (omega (arith, deeper)), digit-closed bound n made (decisions made + 1) (omega arith))
    (omega (arith, left-bound bound n (upto (decisions made + 1) new))))
    (λ l. digit-small bound n new l)
