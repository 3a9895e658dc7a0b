use Rattle.std.proofs.Common.{[], ◌∷◌, sym, ◌∙◌, ◌+◌, ◌≤◌, List, Result, Ok, Err, ap, arith, refl, true≢false}
use Rattle.std.specs.Prelude.{OnErr, is_ok, slice_get}
use Rattle.std.specs.List.{length_refill}
use Rattle.std.proofs.lemmas.Result.{IfOk-from_err}
use Rattle.smallvec.specs.SmallVec.{SmallVec, small_vec_len, with_items}
use Rattle.terms.specs.declared.words.Word.{Word}
use Rattle.terms.specs.Words.{has_bit}
use Rattle.terms.proofs.Inserting.{grown-through, grown-with, word-with}
use Rattle.terms.proofs.words.insert_word.Goals as goal

-- a write through the slice leaves as many words
written : (words : SmallVec Word) (shown : List Word) → small_vec_len (with_items words shown) ≤ small_vec_len words + 1
written words shown = omega (arith, length_refill (small_vec_len words) words.items shown refl)

-- what holds anyway holds where a call fails
on_err : {T E : Type 0} (r : Result T E) (P : Type 0) → P → OnErr r P
on_err (Ok x) P p = tt
on_err (Err e) P p = p

pub insert-requires : goal.insert-requires
insert-requires c = let p = rw c.deref.ensures at c.in-Err.ensures in (omega arith, p.0)

pub returns-in-Ok-clause-grown : goal.returns-in-Ok-clause-grown
returns-in-Ok-clause-grown c = written c.args.words.now _

pub returns-in-Ok-clause-words : goal.returns-in-Ok-clause-words
returns-in-Ok-clause-words c =
    let p = c.in-Ok.ensures in
    let g = grown-through (has_bit (c.args.word ∷ [])) c.args.word c.args.words.now c.deref_mut.result.now c.in-Ok.place p.0
    (word-with c.args.word c.requires.word)
    c.requires.words (ap (λ l. slice_get l c.in-Ok.place) (sym c.deref.ensures) ∙ p.1) p.2 c.deref_mut.ensures.value in
    g.0

pub returns-in-Ok-clause-added : goal.returns-in-Ok-clause-added
returns-in-Ok-clause-added c =
    let p = c.in-Ok.ensures in
    let g = grown-through (has_bit (c.args.word ∷ [])) c.args.word c.args.words.now c.deref_mut.result.now c.in-Ok.place p.0
    (word-with c.args.word c.requires.word)
    c.requires.words (ap (λ l. slice_get l c.in-Ok.place) (sym c.deref.ensures) ∙ p.1) p.2 c.deref_mut.ensures.value in
    g.1

pub returns-in_ok-insert-in-Err-clause-words : goal.returns-in_ok-insert-in-Err-clause-words
returns-in_ok-insert-in-Err-clause-words c =
    let p = rw c.deref.ensures at c.in-Err.ensures in
    let g = grown-with (has_bit (c.args.word ∷ [])) c.args.word c.args.words.now.items c.in-Err.place
    (word-with c.args.word c.requires.word) c.requires.words p.1 p.2 in
    rw c.in_ok-insert-in-Err.ensures.ok g.0

pub returns-in_ok-insert-in-Err-clause-added : goal.returns-in_ok-insert-in-Err-clause-added
returns-in_ok-insert-in-Err-clause-added c =
    let p = rw c.deref.ensures at c.in-Err.ensures in
    let g = grown-with (has_bit (c.args.word ∷ [])) c.args.word c.args.words.now.items c.in-Err.place
    (word-with c.args.word c.requires.word) c.requires.words p.1 p.2 in
    rw c.in_ok-insert-in-Err.ensures.ok g.1

pub returns-in_ok-insert-in-Err-clause-grown : goal.returns-in_ok-insert-in-Err-clause-grown
returns-in_ok-insert-in-Err-clause-grown c = omega (arith, c.in_ok-insert-in-Err.ensures.len)

-- where memory is refused, the words are as they were
pub returns-in_err-insert-in-Err-clause-words : goal.returns-in_err-insert-in-Err-clause-words
returns-in_err-insert-in-Err-clause-words c = rw c.in_err-insert-in-Err.ensures.err c.requires.words

pub returns-in_err-insert-in-Err-clause-grown : goal.returns-in_err-insert-in-Err-clause-grown
returns-in_err-insert-in-Err-clause-grown c = omega (arith, ap (λ (words : SmallVec Word). small_vec_len words) c.in_err-insert-in-Err.ensures.err)

pub returns-in_err-insert-in-Err-clause-succeeds : goal.returns-in_err-insert-in-Err-clause-succeeds
returns-in_err-insert-in-Err-clause-succeeds c = λ room. absurd (true≢false (sym (c.insert.ensures.succeeds (omega (arith, room))) ∙ ap is_ok c.in_err-insert-in-Err.was))

pub returns-in_err-insert-in-Err-clause-unchanged : goal.returns-in_err-insert-in-Err-clause-unchanged
returns-in_err-insert-in-Err-clause-unchanged c = on_err c.from_residual.result _ (ap (λ (words : SmallVec Word). words.items) c.in_err-insert-in-Err.ensures.err)

pub returns-in_err-insert-in-Err-clause-added : goal.returns-in_err-insert-in-Err-clause-added
returns-in_err-insert-in-Err-clause-added c = IfOk-from_err c.from_residual.result _ c.from_residual.ensures.0
