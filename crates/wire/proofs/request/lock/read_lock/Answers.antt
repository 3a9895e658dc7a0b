use Rattle.std.proofs.Common.{◌≡◌, false, length, nat_le, rules, true}
use Rattle.wire.specs.declared.request.lock.TheConstants.{LOCK_BYTES}
use Rattle.wire.proofs.RequestLemmas.{lock_of-bad, lock_of-long, lock_of-read}
use Rattle.wire.proofs.request.lock.read_lock.Goals as goal

pub returns-then-text-gt-LOCK_BYTES : goal.returns-then-text-gt-LOCK_BYTES
returns-then-text-gt-LOCK_BYTES c =
    let long : nat_le (length c.args.text.now) LOCK_BYTES ≡ false = search rules in
    lock_of-long c.args.text.now long

pub returns-in-Ok : goal.returns-in-Ok
returns-in-Ok c =
    let fits : nat_le (length c.args.text.now) LOCK_BYTES ≡ true = search rules in
    rw (lock_of-read _ _ fits c.in-Ok.ensures.ok.0 c.in-Ok.ensures.ok.1) c.lines_in.ensures

pub returns-else-is_memory : goal.returns-else-is_memory
returns-else-is_memory c =
    let fits : nat_le (length c.args.text.now) LOCK_BYTES ≡ true = search rules in
    lock_of-bad _ fits (c.in-Err.ensures.err (λ m. let h = c.if-is_memory.ensures.1 m in search rules))
