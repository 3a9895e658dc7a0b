use Rattle.std.proofs.Common.{◌≡◌, ◌+◌, None, Some, codes, arith, refl}
use Rattle.serde_json.specs.View.{view}
use Rattle.wire.specs.Members.{has_member, member_count}
use Rattle.wire.proofs.RequestLemmas.{checking_of, other_count}
use Rattle.wire.proofs.request.shape.checking_in.Goals as goal

pub returns-then-member_count-has_member : goal.returns-then-member_count-has_member
returns-then-member_count-has_member c =
    let d = view c.args.value.now in
    other_count (member_count d) (3 + has_member (codes "lock") d) _ (omega (arith, c.if-member_count-has_member.true, c.member_count.ensures, c.has_member.ensures))

pub returns-in_err-lock : goal.returns-in_err-lock
returns-in_err-lock c =
    let d = view c.args.value.now in
    let counted : member_count d ≡ 3 + has_member (codes "lock") d =
    omega (arith, c.if-member_count-has_member.false, c.member_count.ensures, c.has_member.ensures) in
    rw c.from_residual.ensures (checking_of d None _ _ counted c.in_err-lock.ensures refl refl)

pub returns-in_err-needs : goal.returns-in_err-needs
returns-in_err-needs c =
    let d = view c.args.value.now in
    let counted : member_count d ≡ 3 + has_member (codes "lock") d =
    omega (arith, c.if-member_count-has_member.false, c.member_count.ensures, c.has_member.ensures) in
    rw c.from_residual-in_err-needs.ensures (checking_of d (Some _) None _ counted c.in_ok-lock.ensures c.in_err-needs.ensures refl)

pub returns-in_err-lines : goal.returns-in_err-lines
returns-in_err-lines c =
    let d = view c.args.value.now in
    let counted : member_count d ≡ 3 + has_member (codes "lock") d =
    omega (arith, c.if-member_count-has_member.false, c.member_count.ensures, c.has_member.ensures) in
    rw c.from_residual-in_err-lines.ensures (checking_of d (Some _) (Some _) None counted c.in_ok-lock.ensures c.in_ok-needs.ensures c.in_err-lines.ensures)

pub returns : goal.returns
returns c =
    let d = view c.args.value.now in
    let counted : member_count d ≡ 3 + has_member (codes "lock") d =
    omega (arith, c.if-member_count-has_member.false, c.member_count.ensures, c.has_member.ensures) in
    checking_of d (Some _) (Some _) (Some _) counted c.in_ok-lock.ensures c.in_ok-needs.ensures c.in_ok-lines.ensures
