use Rattle.std.proofs.Common.{flat_map}
use Rattle.std.proofs.lemmas.Result.{err_from_is_err_and}
use Rattle.std.proofs.lemmas.Bool.{false≢true}
use Rattle.replies.proofs.ReplyLemmas.{found_parts}
use Rattle.replies.proofs.PutLemmas.{all_wait, first_fails, first_room, second_fails, second_room, third_put}
use Rattle.replies.proofs.reply.put_around.Goals as goal

pub returns-in_err-put_all-clause-text : goal.returns-in_err-put_all-clause-text
returns-in_err-put_all-clause-text g c =
    let err = err_from_is_err_and c.from_residual.result c.from_residual.ensures.1 in
    let parts = found_parts (flat_map (λ t. t.now) c.args.before.now) c.args.after.now c.args.between.now c.args.stamp c.args.revision in
    rw err.1 (first_fails parts _ _ c.args.outbox.now c.in_err-put_all.ensures.texts)

pub returns-in_err-put_found-clause-text : goal.returns-in_err-put_found-clause-text
returns-in_err-put_found-clause-text g c =
    let err = err_from_is_err_and c.from_residual-in_err-put_found.result c.from_residual-in_err-put_found.ensures.1 in
    let parts = found_parts (flat_map (λ t. t.now) c.args.before.now) c.args.after.now c.args.between.now c.args.stamp c.args.revision in
    rw err.1 (second_fails parts _ _ _ c.args.outbox.now c.put_all.new.self c.in_ok-put_all.ensures.texts c.in_err-put_found.ensures.text)

pub returns-clause-text : goal.returns-clause-text
returns-clause-text g c =
    let parts = found_parts (flat_map (λ t. t.now) c.args.before.now) c.args.after.now c.args.between.now c.args.stamp c.args.revision in
    third_put parts _ _ _ _ c.args.outbox.now c.put_all.new.self c.put_found.new.outbox c.put.new.self c.put.result
    c.in_ok-put_all.ensures.texts c.in_ok-put_found.ensures.text c.put.ensures.text

pub returns-in_err-put_all-clause-waits : goal.returns-in_err-put_all-clause-waits
returns-in_err-put_all-clause-waits g c = λ fits.
    let parts = found_parts (flat_map (λ t. t.now) c.args.before.now) c.args.after.now c.args.between.now c.args.stamp c.args.revision in
    let failed = (c.in_err-put_all.ensures.waits (first_room parts c.args.outbox.now fits)).0 in
    absurd (false≢true failed)

pub returns-in_err-put_found-clause-waits : goal.returns-in_err-put_found-clause-waits
returns-in_err-put_found-clause-waits g c = λ fits.
    let parts = found_parts (flat_map (λ t. t.now) c.args.before.now) c.args.after.now c.args.between.now c.args.stamp c.args.revision in
    let waits = (c.in_ok-put_all.ensures.waits (first_room parts c.args.outbox.now fits)).1 in
    let failed = (c.in_err-put_found.ensures.waits (second_room parts c.args.outbox.now c.put_all.new.self waits fits)).0 in
    absurd (false≢true failed)

pub returns-clause-waits : goal.returns-clause-waits
returns-clause-waits g c =
    let parts = found_parts (flat_map (λ t. t.now) c.args.before.now) c.args.after.now c.args.between.now c.args.stamp c.args.revision in
    all_wait parts c.args.outbox.now c.put_all.new.self c.put_found.new.outbox c.put.new.self c.put.result (λ room. (c.in_ok-put_all.ensures.waits room).1) (λ room. (c.in_ok-put_found.ensures.waits room).1)
    c.put.ensures.waits
