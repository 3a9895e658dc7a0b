use Rattle.std.proofs.Common.{[], ◌≡◌, ◌∙◌, ◌%◌, ◌/◌, ◌^◌, ap, arith, get_or, ◌+◌, sym, refl}
use Rattle.std.proofs.lemmas.List.{nil_from_length}
use Rattle.std.proofs.lemmas.Result.{IfOk-from_err}
use Rattle.terms.specs.Sets.{has}
use Rattle.terms.specs.Words.{ordinals_of}
use Rattle.terms.proofs.Inserting.{word_of-is}
use Rattle.terms.proofs.WordLists.{nil_ordinals}
use Rattle.terms.proofs.WordsTogether.{behind-first, coming-apart, coming-begin, coming-end, coming-together}
use Rattle.terms.proofs.words.words_of.Goals as goal
use Rattle.terms.proofs.words.words_of.Goals.{then-word-last, else-word-last+in_ok-insert_word}

pub loop-ordinal-init : goal.loop-ordinal-init
loop-ordinal-init c =
    let o = get_or c.args.ordinals.now 0 0 in
    coming-begin _ _ c.args.ordinals.now o c.new-words.ensures.items (omega arith) refl
    (word_of-is o c.word_of-last.result (let f = c.type_inv.ordinals 0 in omega (arith, f)) c.word_of-last.ensures.number c.word_of-last.ensures.bits)

pub loop-ordinal-preserved : goal.loop-ordinal-preserved
loop-ordinal-preserved c =
    let xs = c.args.ordinals.now in
    let i = c.loop-ordinal.ordinal-index in
    let at = behind-first xs i c.loop-ordinal-test.true in
    let o = get_or xs (i + 1) 0 in
    let with = word_of-is o c.word_of-word.result (let f = c.type_inv.ordinals (i + 1) in omega (arith, f))
    (c.word_of-word.ensures.number ∙ ap (λ n. n / 64) at.1) (c.word_of-word.ensures.bits ∙ ap (λ n. 2 ^ (n % 64)) at.1) in
    elim c.if-word-last.branch [
      | then-word-last w ↦ rw (w.words-is, w.last-is) (coming-together c.loop-ordinal.words.items c.loop-ordinal.last c.word_of-word.result xs (i + 1) o c.loop-ordinal.invariant at.0 refl with w.if-word-last.true)
      | else-word-last+in_ok-insert_word w ↦ rw (w.words-is, w.last-is) (coming-apart c.loop-ordinal.words.items c.loop-ordinal.last c.word_of-word.result xs (i + 1) o c.loop-ordinal.invariant at.0 refl with _ w.in_ok-insert_word.ensures.words w.in_ok-insert_word.ensures.added)
    ]

pub returns-clause-members : goal.returns-clause-members
returns-clause-members c k =
    c.in_ok-insert_word-2.ensures.added k ∙ c.loop-ordinal.invariant.members k
    ∙ coming-end c.args.ordinals.now c.loop-ordinal.ordinal-index k c.loop-ordinal-test.false (omega arith)

pub returns-in_default-clause-members : goal.returns-in_default-clause-members
returns-in_default-clause-members c k =
    let none : c.args.ordinals.now ≡ [] = (let short = c.in_default.len_below in nil_from_length c.args.ordinals.now (omega (arith, short))) in
    ap (λ l. has (ordinals_of l) k) c.new-words.ensures.items ∙ ap (λ l. has l k) nil_ordinals ∙ sym (ap (λ l. has l k) none)

pub insert_word-requires-clause-words : goal.insert_word-requires-clause-words
insert_word-requires-clause-words c = c.loop-ordinal.invariant.in_order

pub insert_word-requires-clause-word : goal.insert_word-requires-clause-word
insert_word-requires-clause-word c = c.loop-ordinal.invariant.one

pub insert_word-requires-2-clause-words : goal.insert_word-requires-2-clause-words
insert_word-requires-2-clause-words c = c.loop-ordinal.invariant.in_order

pub insert_word-requires-2-clause-word : goal.insert_word-requires-2-clause-word
insert_word-requires-2-clause-word c = c.loop-ordinal.invariant.one

pub returns-in_err-insert_word : goal.returns-in_err-insert_word
returns-in_err-insert_word c = let failed = c.from_residual in record { words = IfOk-from_err failed.result _ failed.ensures.0; members = IfOk-from_err failed.result _ failed.ensures.0 }

pub returns-in_err-insert_word-2 : goal.returns-in_err-insert_word-2
returns-in_err-insert_word-2 c = let failed = c.from_residual-in_err-insert_word-2 in record { words = IfOk-from_err failed.result _ failed.ensures.0; members = IfOk-from_err failed.result _ failed.ensures.0 }
