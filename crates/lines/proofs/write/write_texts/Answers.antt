use Rattle.std.proofs.lemmas.Result.{err_from_is_err_and}
use Rattle.lines.proofs.TextLemmas.{writes_texts_fail}
use Rattle.lines.proofs.write.write_texts.Goals as goal

pub returns-in_err-write_text-clause-written : goal.returns-in_err-write_text-clause-written
returns-in_err-write_text-clause-written g c =
    let here = c.in_err-write_text.ensures.written in
    let err = err_from_is_err_and c.from_residual.result c.from_residual.ensures.1 in
    rw err.1 (writes_texts_fail _ _ _ c.args.texts.now c.loop-text.text-index _ here.0 c.loop-text-test.true c.loop-text.invariant here.1 here.2)
