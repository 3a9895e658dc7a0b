use Rattle.std.proofs.lemmas.Result.{err_from_is_err_and}
use Rattle.replies.proofs.PutLemmas.{first_fails, second_fails, third_put}
use Rattle.replies.proofs.ReplyLemmas.{lock_parts}
use Rattle.replies.proofs.lock.put_lock.Goals as goal

pub returns-in_err-put-clause-text : goal.returns-in_err-put-clause-text
returns-in_err-put-clause-text g c =
    let err = err_from_is_err_and c.from_residual.result c.from_residual.ensures.1 in
    rw err.1 (first_fails (lock_parts c.args.lines.now) _ _ c.args.outbox.now c.in_err-put.ensures.text)

pub returns-in_err-put_selected-clause-text : goal.returns-in_err-put_selected-clause-text
returns-in_err-put_selected-clause-text g c =
    let err = err_from_is_err_and c.from_residual-in_err-put_selected.result c.from_residual-in_err-put_selected.ensures.1 in
    rw err.1 (second_fails (lock_parts c.args.lines.now) _ _ _ c.args.outbox.now c.put.new.self c.in_ok-put.ensures.text c.in_err-put_selected.ensures.text)

pub returns-clause-text : goal.returns-clause-text
returns-clause-text g c =
    third_put (lock_parts c.args.lines.now) _ _ _ _ c.args.outbox.now c.put.new.self c.put_selected.new.outbox c.put-2.new.self c.put-2.result
    c.in_ok-put.ensures.text c.in_ok-put_selected.ensures.text c.put-2.ensures.text
