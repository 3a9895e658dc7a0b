use Rattle.std.proofs.Common.{◌≡◌, ◌+◌, None, Some, codes, arith, refl}
use Rattle.serde_json.specs.View.{view}
use Rattle.wire.specs.Members.{has_member, member_count}
use Rattle.wire.proofs.RequestLemmas.{other_count, resolution_of}
use Rattle.wire.proofs.request.shape.resolution_in.Goals as goal

pub returns-then-member_count-optional : goal.returns-then-member_count-optional
returns-then-member_count-optional c =
    let d = view c.args.value.now in
    other_count (member_count d) (2 + has_member (codes "lock") d + has_member (codes "budget") d + has_member (codes "explain") d) _
    (omega (arith, c.if-member_count-optional.true, c.member_count.ensures, c.has_member.ensures, c.has_member-2.ensures, c.has_member-3.ensures))

pub returns-in_err-lock : goal.returns-in_err-lock
returns-in_err-lock c =
    let d = view c.args.value.now in
    let counted : member_count d ≡ 2 + has_member (codes "lock") d + has_member (codes "budget") d + has_member (codes "explain") d =
    omega (arith, c.if-member_count-optional.false, c.member_count.ensures, c.has_member.ensures, c.has_member-2.ensures, c.has_member-3.ensures) in
    rw c.from_residual.ensures (resolution_of d None _ _ _ counted c.in_err-lock.ensures refl refl refl)

pub returns-in_err-needs : goal.returns-in_err-needs
returns-in_err-needs c =
    let d = view c.args.value.now in
    let counted : member_count d ≡ 2 + has_member (codes "lock") d + has_member (codes "budget") d + has_member (codes "explain") d =
    omega (arith, c.if-member_count-optional.false, c.member_count.ensures, c.has_member.ensures, c.has_member-2.ensures, c.has_member-3.ensures) in
    rw c.from_residual-in_err-needs.ensures (resolution_of d (Some _) None _ _ counted c.in_ok-lock.ensures c.in_err-needs.ensures refl refl)

pub returns-in_err-explain : goal.returns-in_err-explain
returns-in_err-explain c =
    let d = view c.args.value.now in
    let counted : member_count d ≡ 2 + has_member (codes "lock") d + has_member (codes "budget") d + has_member (codes "explain") d =
    omega (arith, c.if-member_count-optional.false, c.member_count.ensures, c.has_member.ensures, c.has_member-2.ensures, c.has_member-3.ensures) in
    rw c.from_residual-in_err-explain.ensures (resolution_of d (Some _) (Some _) None _ counted c.in_ok-lock.ensures c.in_ok-needs.ensures c.in_err-explain.ensures refl)

pub returns-in_err-budget : goal.returns-in_err-budget
returns-in_err-budget c =
    let d = view c.args.value.now in
    let counted : member_count d ≡ 2 + has_member (codes "lock") d + has_member (codes "budget") d + has_member (codes "explain") d =
    omega (arith, c.if-member_count-optional.false, c.member_count.ensures, c.has_member.ensures, c.has_member-2.ensures, c.has_member-3.ensures) in
    rw c.from_residual-in_err-budget.ensures
    (resolution_of d (Some _) (Some _) (Some _) None counted c.in_ok-lock.ensures c.in_ok-needs.ensures c.in_ok-explain.ensures c.in_err-budget.ensures)

pub returns : goal.returns
returns c =
    let d = view c.args.value.now in
    let counted : member_count d ≡ 2 + has_member (codes "lock") d + has_member (codes "budget") d + has_member (codes "explain") d =
    omega (arith, c.if-member_count-optional.false, c.member_count.ensures, c.has_member.ensures, c.has_member-2.ensures, c.has_member-3.ensures) in
    resolution_of d (Some _) (Some _) (Some _) (Some _) counted c.in_ok-lock.ensures c.in_ok-needs.ensures c.in_ok-explain.ensures c.in_ok-budget.ensures
