use Rattle.std.proofs.Common.{refl}
use Rattle.std.specs.Prelude.{string_bytes}
use Rattle.std.proofs.lemmas.Option.{slice_get_read}
use Rattle.std.proofs.lemmas.Result.{err_from_is_err_and}
use Rattle.explain.proofs.WrittenLines.{writes_line_fails}
use Rattle.explain.proofs.explaining.write_all.Goals as goal

pub returns-in_err-write_line-clause-written : goal.returns-in_err-write_line-clause-written
returns-in_err-write_line-clause-written g c =
    let at = slice_get_read c.args.lines.now _ c.loop-line.line-index _ refl c.loop-line-test.true c.line-item.is in
    let here = rw c.as_str.ensures.value at c.in_err-write_line.ensures.written in
    let err = err_from_is_err_and c.from_residual.result c.from_residual.ensures.1 in
    rw err.1 (writes_line_fails string_bytes _ _ _ c.args.lines.now c.loop-line.line-index _ here.0 at c.loop-line.invariant here.1 here.2)
