use Rattle.std.proofs.lemmas.Result.{err_from_is_err_and}
use Rattle.std.proofs.lemmas.Bool.{false≢true}
use Rattle.replies.proofs.ReplyLemmas.{selected_parts}
use Rattle.replies.proofs.PutLemmas.{all_wait, first_fails, first_room, second_fails, second_room, third_put}
use Rattle.replies.proofs.reply.put_selection.Goals as goal

pub returns-in_err-put_around-clause-text : goal.returns-in_err-put_around-clause-text
returns-in_err-put_around-clause-text g c =
    let err = err_from_is_err_and c.from_residual.result c.from_residual.ensures.1 in
    let parts = selected_parts c.args.pairs.now c.args.stamp c.args.revision in
    rw err.1 (first_fails parts _ _ c.args.outbox.now c.in_err-put_around.ensures.text)

pub returns-in_err-put_selected-clause-text : goal.returns-in_err-put_selected-clause-text
returns-in_err-put_selected-clause-text g c =
    let err = err_from_is_err_and c.from_residual-in_err-put_selected.result c.from_residual-in_err-put_selected.ensures.1 in
    let parts = selected_parts c.args.pairs.now c.args.stamp c.args.revision in
    rw err.1 (second_fails parts _ _ _ c.args.outbox.now c.put_around.new.outbox c.in_ok-put_around.ensures.text c.in_err-put_selected.ensures.text)

pub returns-clause-text : goal.returns-clause-text
returns-clause-text g c =
    let parts = selected_parts c.args.pairs.now c.args.stamp c.args.revision in
    third_put parts _ _ _ _ c.args.outbox.now c.put_around.new.outbox c.put_selected.new.outbox c.put.new.self c.put.result
    c.in_ok-put_around.ensures.text c.in_ok-put_selected.ensures.text c.put.ensures.text

pub returns-in_err-put_around-clause-waits : goal.returns-in_err-put_around-clause-waits
returns-in_err-put_around-clause-waits g c = λ fits.
    let parts = selected_parts c.args.pairs.now c.args.stamp c.args.revision in
    let failed = (c.in_err-put_around.ensures.waits (first_room parts c.args.outbox.now fits)).0 in
    absurd (false≢true failed)

pub returns-in_err-put_selected-clause-waits : goal.returns-in_err-put_selected-clause-waits
returns-in_err-put_selected-clause-waits g c = λ fits.
    let parts = selected_parts c.args.pairs.now c.args.stamp c.args.revision in
    let waits = (c.in_ok-put_around.ensures.waits (first_room parts c.args.outbox.now fits)).1 in
    let failed = (c.in_err-put_selected.ensures.waits (second_room parts c.args.outbox.now c.put_around.new.outbox waits fits)).0 in
    absurd (false≢true failed)

pub returns-clause-waits : goal.returns-clause-waits
returns-clause-waits g c =
    let parts = selected_parts c.args.pairs.now c.args.stamp c.args.revision in
    all_wait parts c.args.outbox.now c.put_around.new.outbox c.put_selected.new.outbox c.put.new.self c.put.result (λ room. (c.in_ok-put_around.ensures.waits room).1) (λ room. (c.in_ok-put_selected.ensures.waits room).1)
    c.put.ensures.waits
