use Rattle.std.proofs.Common.{ℕ, List, ◌++◌, ap, ◌∙◌}
use Rattle.replies.specs.Locks.{lock_text}
use Rattle.replies.proofs.lock.write_lock.Goals as goal

pub returns-clause-written : goal.returns-clause-written
returns-clause-written g c =
    let put = c.in_ok-put_lock.ensures.text in
    let new = ap (λ (l : List ℕ). l ++ lock_text c.sort_by_name.new.lines) c.in_ok-outbox.ensures in
    c.send.ensures.rest _ put.0 _ put.1 (put.2 ∙ new)

pub returns-clause-moved : goal.returns-clause-moved
returns-clause-moved g c = c.sort_by_name.ensures.moved

pub returns-clause-sorted : goal.returns-clause-sorted
returns-clause-sorted g c = c.sort_by_name.ensures.sorted

pub returns-clause-retried : goal.returns-clause-retried
returns-clause-retried g c = c.send.ensures.retried

pub returns-in_err-outbox-clause-sorted : goal.returns-in_err-outbox-clause-sorted
returns-in_err-outbox-clause-sorted g c = c.sort_by_name.ensures.sorted

pub returns-in_err-put_lock-clause-sorted : goal.returns-in_err-put_lock-clause-sorted
returns-in_err-put_lock-clause-sorted g c = c.sort_by_name.ensures.sorted
