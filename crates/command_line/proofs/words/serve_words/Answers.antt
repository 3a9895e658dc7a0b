use Rattle.std.proofs.Common.{◌≡◌, ◌∙◌, codes, subst, sym, ◌≤◌, ℕ, List, Option, Some, None, Result, Ok, Err, IfOk, IsErrOf, arith, refl}
use Rattle.std.specs.Str.Parse.{ExplainsUnsignedError, HasUnsignedDigitsIfOk, ParsesUnsigned}
use Rattle.std.specs.declared.num.ParseIntError.{ParseIntError}
use Rattle.clap.specs.Words.{ReadsOne, Row, Text, found_of, first_of, one_of, rows_of}
use Rattle.clap.proofs.WalkLemmas.{first_value-rows, one_text-rows}
use Rattle.command_line.specs.declared.words.TheConstants.{MOST_WORKERS}
use Rattle.command_line.specs.declared.words.WordFault.{WordFault}
use Rattle.command_line.specs.declared.words.WordFault.TheVariants.{Bad}
use Rattle.command_line.specs.declared.words.Words.{Words}
use Rattle.command_line.specs.declared.words.Words.TheVariants.{Keep, Race, Serve}
use Rattle.command_line.specs.Words.{AreMixed, AreWords, HasBudget, NamesBoth, SaysBudget, SaysServe, SaysWorkers}
use Rattle.command_line.proofs.words.serve_words.Goals as goal

module _ (n : ℕ) (b : Option ℕ) (rows : List Row) (some : SaysWorkers n rows) (budget : SaysBudget b rows) where
  -- the files are those of the rows
  said : (w : Words) → AreWords w n b (first_of (codes "load") rows) (first_of (codes "save") rows) (first_of (codes "journal") rows) → SaysServe w rows
  said (Serve workers own load save) are =
      let P : ℕ → Type 0 = λ k. SaysWorkers k rows in
      let Q : Option ℕ → Type 0 = λ k. SaysBudget k rows in
      (subst P (sym are.0) some, subst Q (sym are.1) budget, are.2, are.3, are.4)
  said (Keep workers own journal) are =
      let P : ℕ → Type 0 = λ k. SaysWorkers k rows in
      let Q : Option ℕ → Type 0 = λ k. SaysBudget k rows in
      (subst P (sym are.0) some, subst Q (sym are.1) budget, are.2, are.3, are.4)
  said (Race files) are = absurd are

module _ (rows : List Row) (from to kept : Option Text) (from_is : from ≡ first_of (codes "load") rows) (to_is : to ≡ first_of (codes "save") rows) (kept_is : kept ≡ first_of (codes "journal") rows) where
  by_rows : (P : Option Text → Option Text → Option Text → Type 0) → P from to kept → P (first_of (codes "load") rows) (first_of (codes "save") rows) (first_of (codes "journal") rows)
  by_rows P is = let A : Option Text → Type 0 = λ o. P o to kept in
      let B : Option Text → Type 0 = λ o. P (first_of (codes "load") rows) o kept in
      let C : Option Text → Type 0 = λ o. P (first_of (codes "load") rows) (first_of (codes "save") rows) o in
      subst C kept_is (subst B to_is (subst A from_is is))

  all_said : (r : Result Words WordFault) (n : ℕ) (b : Option ℕ) → SaysWorkers n rows → SaysBudget b rows → IfOk r (λ w. AreWords w n b from to kept) → IfOk r (λ w. SaysServe w rows)
  all_said (Ok w) n b some budget are = said n b rows some budget w (by_rows (AreWords w n b) are)
  all_said (Err e) n b some budget are = are

  both_named : (r : Result Words WordFault) → (IsErrOf r Bad → NamesBoth from to kept) → IsErrOf r Bad → AreMixed rows
  both_named r names bad = by_rows NamesBoth (names bad)

-- what is read of a text as a number of 32 bits
abbrev Gives : Text → Result ℕ ParseIntError → Type 0
Gives text r = ParsesUnsigned 32 10 text r × ExplainsUnsignedError 10 text r × HasUnsignedDigitsIfOk text r

module _ (rows : List Row) (has : HasBudget rows) where
  budget_read : (t : Text) (r : Option ℕ) → one_of (codes "budget") rows ≡ Some t → ReadsOne Gives t r → SaysBudget r rows
  budget_read t (Some v) is read = (t, is, (read.0.0.0, sym read.0.1))
  budget_read t None is read = let there = has t is in absurd (read.1.0 (there.0, omega (arith, there.3)))

  budget_said : (o : Option Text) (r : Option ℕ) → one_of (codes "budget") rows ≡ o → (o ≡ None → r ≡ None) → ((t : Text) → o ≡ Some t → ReadsOne Gives t r) → SaysBudget r rows
  budget_said None r is none some = subst (λ (k : Option ℕ). SaysBudget k rows) (sym (none refl)) is
  budget_said (Some t) r is none some = budget_read t r is (some t refl)

pub unreachable-requires : goal.unreachable-requires
unreachable-requires c =
    let found = found_of c.args.given.now in
    let text = c.requires.workers in
    let refused = c.in_default.ensures.value text.0 (one_text-rows found (codes "workers") ∙ text.1) in
    refused.1.0 (text.2.0, text.2.1)

pub returns-clause-ok : goal.returns-clause-ok
returns-clause-ok c =
    let found = found_of c.args.given.now in
    let text = c.requires.workers in
    let read = (c.in-Some.ensures.value text.0 (one_text-rows found (codes "workers") ∙ text.1)).0 in
    let least = let P : ℕ → Type 0 = λ n. 1 ≤ n in subst P (sym read.1) text.2.2 in
    let most = let P : ℕ → Type 0 = λ n. n ≤ MOST_WORKERS in subst P (sym read.1) text.2.3 in
    let budget = budget_said (rows_of found) c.requires.budget _ _ refl
    (λ none. c.get_one-budget.ensures.none (one_text-rows found (codes "budget") ∙ none))
    (λ t some. c.get_one-budget.ensures.value t (one_text-rows found (codes "budget") ∙ some)) in
    all_said (rows_of found) _ _ _
    (c.get_str-load.ensures ∙ first_value-rows found (codes "load"))
    (c.get_str-save.ensures ∙ first_value-rows found (codes "save"))
    (c.get_str-journal.ensures ∙ first_value-rows found (codes "journal"))
    c.words_with.result _ _ (least, most, (text.0, text.1, (read.0.0, sym read.1))) budget c.words_with.ensures.ok

pub returns-clause-bad : goal.returns-clause-bad
returns-clause-bad c =
    let found = found_of c.args.given.now in
    both_named (rows_of found) _ _ _
    (c.get_str-load.ensures ∙ first_value-rows found (codes "load"))
    (c.get_str-save.ensures ∙ first_value-rows found (codes "save"))
    (c.get_str-journal.ensures ∙ first_value-rows found (codes "journal"))
    c.words_with.result c.words_with.ensures.bad
