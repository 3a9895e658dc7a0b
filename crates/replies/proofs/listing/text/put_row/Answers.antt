use Rattle.std.proofs.lemmas.Result.{err_from_is_err_and}
use Rattle.std.proofs.lemmas.Bool.{false≢true}
use Rattle.replies.proofs.ReplyLemmas.{row_parts}
use Rattle.replies.proofs.PutLemmas.{all_wait, first_fails, first_room, second_fails, second_room, third_put}
use Rattle.replies.proofs.listing.text.put_row.Goals as goal

pub returns-in_err-put_parts-clause-text : goal.returns-in_err-put_parts-clause-text
returns-in_err-put_parts-clause-text g c =
    let err = err_from_is_err_and c.from_residual.result c.from_residual.ensures.1 in
    let parts = row_parts c.args.registry.now.packages c.args.entry.now c.args.later _ _ c.opening.ensures c.text.ensures.text c.text.ensures.valid in
    rw err.1 (first_fails parts _ _ c.args.outbox.now c.in_err-put_parts.ensures.text)

pub returns-in_err-put_versions-clause-text : goal.returns-in_err-put_versions-clause-text
returns-in_err-put_versions-clause-text g c =
    let err = err_from_is_err_and c.from_residual-in_err-put_versions.result c.from_residual-in_err-put_versions.ensures.1 in
    let parts = row_parts c.args.registry.now.packages c.args.entry.now c.args.later _ _ c.opening.ensures c.text.ensures.text c.text.ensures.valid in
    rw err.1 (second_fails parts _ _ _ c.args.outbox.now c.put_parts.new.outbox c.in_ok-put_parts.ensures.text c.in_err-put_versions.ensures.text)

pub returns-clause-text : goal.returns-clause-text
returns-clause-text g c =
    let parts = row_parts c.args.registry.now.packages c.args.entry.now c.args.later _ _ c.opening.ensures c.text.ensures.text c.text.ensures.valid in
    third_put parts _ _ _ _ c.args.outbox.now c.put_parts.new.outbox c.put_versions.new.outbox c.put.new.self c.put.result
    c.in_ok-put_parts.ensures.text c.in_ok-put_versions.ensures.text c.put.ensures.text

pub returns-in_err-put_parts-clause-waits : goal.returns-in_err-put_parts-clause-waits
returns-in_err-put_parts-clause-waits g c = λ fits.
    let parts = row_parts c.args.registry.now.packages c.args.entry.now c.args.later _ _ c.opening.ensures c.text.ensures.text c.text.ensures.valid in
    let failed = (c.in_err-put_parts.ensures.waits (first_room parts c.args.outbox.now fits)).0 in
    absurd (false≢true failed)

pub returns-in_err-put_versions-clause-waits : goal.returns-in_err-put_versions-clause-waits
returns-in_err-put_versions-clause-waits g c = λ fits.
    let parts = row_parts c.args.registry.now.packages c.args.entry.now c.args.later _ _ c.opening.ensures c.text.ensures.text c.text.ensures.valid in
    let waits = (c.in_ok-put_parts.ensures.waits (first_room parts c.args.outbox.now fits)).1 in
    let failed = (c.in_err-put_versions.ensures.waits (second_room parts c.args.outbox.now c.put_parts.new.outbox waits fits)).0 in
    absurd (false≢true failed)

pub returns-clause-waits : goal.returns-clause-waits
returns-clause-waits g c =
    let parts = row_parts c.args.registry.now.packages c.args.entry.now c.args.later _ _ c.opening.ensures c.text.ensures.text c.text.ensures.valid in
    all_wait parts c.args.outbox.now c.put_parts.new.outbox c.put_versions.new.outbox c.put.new.self c.put.result (λ room. (c.in_ok-put_parts.ensures.waits room).1) (λ room. (c.in_ok-put_versions.ensures.waits room).1)
    c.put.ensures.waits
