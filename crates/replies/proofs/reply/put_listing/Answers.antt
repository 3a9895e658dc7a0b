use Rattle.std.proofs.lemmas.Result.{err_from_is_err_and}
use Rattle.std.proofs.lemmas.Bool.{false≢true}
use Rattle.replies.proofs.ReplyLemmas.{listed_parts}
use Rattle.replies.proofs.PutLemmas.{all_wait, first_fails, first_room, second_fails, second_room, third_put}
use Rattle.replies.proofs.reply.put_listing.Goals as goal

pub returns-in_err-put-clause-text : goal.returns-in_err-put-clause-text
returns-in_err-put-clause-text g c =
    let err = err_from_is_err_and c.from_residual.result c.from_residual.ensures.1 in
    let parts = listed_parts c.args.listing.now c.args.stamp c.args.revision in
    rw err.1 (first_fails parts _ _ c.args.outbox.now c.in_err-put.ensures.text)

pub returns-in_err-put_packages-clause-text : goal.returns-in_err-put_packages-clause-text
returns-in_err-put_packages-clause-text g c =
    let err = err_from_is_err_and c.from_residual-in_err-put_packages.result c.from_residual-in_err-put_packages.ensures.1 in
    let parts = listed_parts c.args.listing.now c.args.stamp c.args.revision in
    rw err.1 (second_fails parts _ _ _ c.args.outbox.now c.put.new.self c.in_ok-put.ensures.text c.in_err-put_packages.ensures.text)

pub returns-clause-text : goal.returns-clause-text
returns-clause-text g c =
    let parts = listed_parts c.args.listing.now c.args.stamp c.args.revision in
    third_put parts _ _ _ _ c.args.outbox.now c.put.new.self c.put_packages.new.outbox c.put_around.new.outbox c.put_around.result
    c.in_ok-put.ensures.text c.in_ok-put_packages.ensures.text c.put_around.ensures.text

pub returns-in_err-put-clause-waits : goal.returns-in_err-put-clause-waits
returns-in_err-put-clause-waits g c = λ fits.
    let parts = listed_parts c.args.listing.now c.args.stamp c.args.revision in
    let failed = (c.in_err-put.ensures.waits (first_room parts c.args.outbox.now fits)).0 in
    absurd (false≢true failed)

pub returns-in_err-put_packages-clause-waits : goal.returns-in_err-put_packages-clause-waits
returns-in_err-put_packages-clause-waits g c = λ fits.
    let parts = listed_parts c.args.listing.now c.args.stamp c.args.revision in
    let waits = (c.in_ok-put.ensures.waits (first_room parts c.args.outbox.now fits)).1 in
    let failed = (c.in_err-put_packages.ensures.waits (second_room parts c.args.outbox.now c.put.new.self waits fits)).0 in
    absurd (false≢true failed)

pub returns-clause-waits : goal.returns-clause-waits
returns-clause-waits g c =
    let parts = listed_parts c.args.listing.now c.args.stamp c.args.revision in
    all_wait parts c.args.outbox.now c.put.new.self c.put_packages.new.outbox c.put_around.new.outbox c.put_around.result (λ room. (c.in_ok-put.ensures.waits room).1) (λ room. (c.in_ok-put_packages.ensures.waits room).1)
    c.put_around.ensures.waits
