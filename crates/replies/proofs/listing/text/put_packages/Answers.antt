use Rattle.std.proofs.Common.{map}
use Rattle.std.proofs.lemmas.Result.{err_from_is_err_and}
use Rattle.std.proofs.lemmas.Bool.{false≢true}
use Rattle.replies.specs.Replies.{row_json}
use Rattle.replies.proofs.ReplyLemmas.{array_parts, packages_parts}
use Rattle.replies.proofs.PutLemmas.{all_wait, first_fails, first_room, second_fails, second_room, third_put}
use Rattle.replies.proofs.listing.text.put_packages.Goals as goal

pub returns-in_err-put-clause-text : goal.returns-in_err-put-clause-text
returns-in_err-put-clause-text g c =
    let err = err_from_is_err_and c.from_residual.result c.from_residual.ensures.1 in
    rw err.1 (first_fails (array_parts (map row_json c.args.listing.now)) _ _ c.args.outbox.now c.in_err-put.ensures.text)

pub returns-in_err-put_rows-clause-text : goal.returns-in_err-put_rows-clause-text
returns-in_err-put_rows-clause-text g c =
    let err = err_from_is_err_and c.from_residual-in_err-put_rows.result c.from_residual-in_err-put_rows.ensures.1 in
    let parts = packages_parts c.listing.inside.registry.now.packages c.as_slice.result.now c.args.listing.now (rw c.as_slice.ensures.value c.listing.view_is) in
    rw err.1 (second_fails parts _ _ _ c.args.outbox.now c.put.new.self c.in_ok-put.ensures.text c.in_err-put_rows.ensures.text)

pub returns-clause-text : goal.returns-clause-text
returns-clause-text g c =
    let parts = packages_parts c.listing.inside.registry.now.packages c.as_slice.result.now c.args.listing.now (rw c.as_slice.ensures.value c.listing.view_is) in
    third_put parts _ _ _ _ c.args.outbox.now c.put.new.self c.put_rows.new.outbox c.put-2.new.self c.put-2.result
    c.in_ok-put.ensures.text c.in_ok-put_rows.ensures.text c.put-2.ensures.text

pub returns-in_err-put-clause-waits : goal.returns-in_err-put-clause-waits
returns-in_err-put-clause-waits g c = λ fits.
    let parts = array_parts (map row_json c.args.listing.now) in
    let failed = (c.in_err-put.ensures.waits (first_room parts c.args.outbox.now fits)).0 in
    absurd (false≢true failed)

pub returns-in_err-put_rows-clause-waits : goal.returns-in_err-put_rows-clause-waits
returns-in_err-put_rows-clause-waits g c = λ fits.
    let parts = packages_parts c.listing.inside.registry.now.packages c.as_slice.result.now c.args.listing.now (rw c.as_slice.ensures.value c.listing.view_is) in
    let waits = (c.in_ok-put.ensures.waits (first_room parts c.args.outbox.now fits)).1 in
    let failed = (c.in_err-put_rows.ensures.waits (second_room parts c.args.outbox.now c.put.new.self waits fits)).0 in
    absurd (false≢true failed)

pub returns-clause-waits : goal.returns-clause-waits
returns-clause-waits g c =
    let parts = packages_parts c.listing.inside.registry.now.packages c.as_slice.result.now c.args.listing.now (rw c.as_slice.ensures.value c.listing.view_is) in
    all_wait parts c.args.outbox.now c.put.new.self c.put_rows.new.outbox c.put-2.new.self c.put-2.result (λ room. (c.in_ok-put.ensures.waits room).1) (λ room. (c.in_ok-put_rows.ensures.waits room).1)
    c.put-2.ensures.waits
