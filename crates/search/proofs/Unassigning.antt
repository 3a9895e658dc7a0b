-- Going back from a satisfier to the previous level, or to one above it.
use Rattle.std.proofs.Common.{◌≡◌, ◌<◌, ◌≤◌, ◌+◌, ◌∙◌, ℕ, zero, suc, refl, sym, ap, subst, arith, true, List, [], ◌∷◌, take, inl, inr, nat_eq, nat_le, if◌then◌else◌, add-one}
use Rattle.std.proofs.lemmas.Bool.{cases_Bool, cases_lt, and_parts, and_from, leb-false, le-leb, lt-leb}
use Rattle.std.proofs.lemmas.List.{append-nil, take-take, length-take-le}
use Rattle.std.proofs.lemmas.Option.{none-some, same_Some, slice_get_within}
use Rattle.std.specs.Prelude.{Option, Some, slice_get}
use Rattle.terms.specs.Terms.{true_of}
use Rattle.terms.specs.declared.term.Term.{Term}
use Rattle.search.specs.declared.assignment.Assignment.{Assignment}
use Rattle.search.specs.Assignments.{says, one_if, is_decision, decisions, upto, LevelsFrom, IsPartial}
use Rattle.search.specs.Satisfying.{Satisfied, IsSatisfier, CanGoBack}
use Rattle.search.proofs.Saying.{says-take, says-shorter, says-push_other, says-upto, upto-above, decisions-append}
use Rattle.search.proofs.Reaching.{next}

-- the satisfier stands before the end of each beginning that satisfies
pub satisfier-before : (made : List Assignment) (terms : List (ℕ × Term)) (bound index level : ℕ) → Satisfied (take bound made) terms → IsSatisfier made terms index level → index < bound
satisfier-before made terms bound index level sat found = elim (cases_lt index bound) [
  | inl lt ↦ lt
  | inr le ↦ absurd (found.shortest.least index (omega arith) (λ p c h.
      sat p c (says-shorter bound index made p c le (subst (λ xs. says xs p c ≡ true) (append-nil (take index made)) h))))
]

-- ---- what is of a level or lower, and what came before

pub upto-contains : (b low n : ℕ) (made : List Assignment) (p : ℕ) (c : Option ℕ) → LevelsFrom low made → low + decisions (take n made) ≤ b → says (upto b made) p c ≡ true → says (take n made) p c ≡ true
upto-contains b low zero made p c h le said = refl
upto-contains b low (suc n) [] p c h le said = refl
upto-contains b low (suc n) (a ∷ made) p c h le said =
    let here : nat_le a.level b ≡ true = le-leb a.level b (omega (arith, h.0)) in
    let both = and_parts (if nat_eq a.pkg p then true_of a.term c else true) (says (upto b made) p c) (rw here at said) in
    and_from (if nat_eq a.pkg p then true_of a.term c else true) (says (take n made) p c) both.0
    (upto-contains b (low + one_if (is_decision a)) n made p c h.1 (omega arith) both.1)

pub upto-within : (b low i : ℕ) (made : List Assignment) (a : Assignment) (p : ℕ) (c : Option ℕ) → LevelsFrom low made → slice_get made i ≡ Some a → b < a.level → says (take i made) p c ≡ true → says (upto b made) p c ≡ true
upto-within b low i [] a p c h at lt said = absurd (none-some a at)
upto-within b low zero (x ∷ made) a p c h at lt said =
    let same : x ≡ a = same_Some x a at in
    let above : b < x.level = omega (arith, lt, ap (λ y. y.level) same) in
    rw (lt-leb x.level b above, upto-above b (low + one_if (is_decision x)) made h.1 (omega (arith, above, h.0))) refl
upto-within b low (suc i) (x ∷ made) a p c h at lt said = elim (cases_Bool (nat_le x.level b)) [
  | inl e ↦
      let both = and_parts (if nat_eq x.pkg p then true_of x.term c else true) (says (take i made) p c) said in
      rw (e, both.0) (upto-within b (low + one_if (is_decision x)) i made a p c h.1 at lt both.1)
  | inr e ↦
      let above : b < low + one_if (is_decision x) = omega (arith, leb-false x.level b e, h.0) in
      rw (e, upto-above b (low + one_if (is_decision x)) made h.1 above) refl
]

-- the level of an assignment by its place
pub level_at : (low i : ℕ) (made : List Assignment) (a : Assignment) → LevelsFrom low made → slice_get made i ≡ Some a → a.level ≡ low + decisions (take i made) + one_if (is_decision a)
level_at low i [] a h at = absurd (none-some a at)
level_at low zero (x ∷ made) a h at = let same : x ≡ a = same_Some x a at in rw (← same) (omega (arith, h.0))
level_at low (suc i) (x ∷ made) a h at = omega (arith, level_at (low + one_if (is_decision x)) i made a h.1 at)

pub decisions-whole : (n : ℕ) (made : List Assignment) → decisions (take n made) ≤ decisions made
decisions-whole zero made = omega arith
decisions-whole (suc n) [] = omega arith
decisions-whole (suc n) (a ∷ made) = omega (arith, decisions-whole n made)

pub can_go_back : (made : List Assignment) (terms : List (ℕ × Term)) (index level : ℕ) → IsPartial made → IsSatisfier made terms index level → CanGoBack made terms index level
can_go_back made terms index level h found a at lower from lt =
    let same : found.satisfier ≡ a = same_Some found.satisfier a (sym found.at ∙ at) in
    let w = h.possible a.pkg in
    let so_far : Satisfied (take (index + 1) made) terms = subst (λ xs. Satisfied xs terms) (append-nil (take (index + 1) made)) found.shortest.satisfied in
    let is_level = level_at 0 index made a h.levels at in
    let after : decisions (take (index + 1) made) ≡ decisions (take index made) + one_if (is_decision a) =
    rw add-one (ap decisions (next made index a at) ∙ decisions-append (take index made) (a ∷ []) ∙ omega arith) in
    record {
      opened = omega (arith, lt, is_level, after, decisions-whole (index + 1) made);
      above_root = omega (arith, from, found.level_is);
      not_yet = λ sat. found.shortest.least index (omega arith) (λ p c said.
          sat p c (upto-within lower 0 index made a p c h.levels at lt (subst (λ xs. says xs p c ≡ true) (append-nil (take index made)) said)));
      out = a.pkg;
      others = λ p c apart said.
          let le : found.count ≤ index = omega (arith, found.previous.within, length-take-le index made (omega (arith, slice_get_within made index a at))) in
          let below : 0 + decisions (take found.count made) ≤ lower = omega (arith, from, found.level_is) in
          let kept : says (take found.count made) p c ≡ true = upto-contains lower 0 found.count made p c h.levels below said in
          let shown : says (take found.count (take index made)) p c ≡ true = subst (λ xs. says xs p c ≡ true) (sym (take-take found.count index made le)) kept in
          found.previous.satisfied p c (says-push_other (take found.count (take index made)) found.satisfier p c (λ e. apart (sym e ∙ ap (λ x. x.pkg) same)) ∙ shown);
      choice = w.0;
      said = says-upto lower made h.levels a.pkg w.0 w.1;
      true_there = so_far a.pkg w.0 (says-take (index + 1) made a.pkg w.0 w.1);
    }
