use Rattle.std.proofs.Common.{◌∙◌, None, Some, arith, refl, sym}
use Rattle.serde_json.specs.View.{view}
use Rattle.wire.specs.Members.{member_count}
use Rattle.wire.proofs.RequestLemmas.{other_count, publication_of}
use Rattle.wire.proofs.request.shape.publication_in.Goals as goal

pub returns-then-member_count-ne4 : goal.returns-then-member_count-ne4
returns-then-member_count-ne4 c =
    other_count (member_count (view c.args.value.now)) 4 _ (omega (arith, c.if-member_count-ne4.true, c.member_count.ensures))

pub returns-in_err-name : goal.returns-in_err-name
returns-in_err-name c =
    rw c.from_residual.ensures (publication_of (view c.args.value.now) None _ _ (sym c.member_count.ensures ∙ c.if-member_count-ne4.false) c.in_err-name.ensures refl refl)

pub returns-in_err-version : goal.returns-in_err-version
returns-in_err-version c =
    rw c.from_residual-in_err-version.ensures
    (publication_of (view c.args.value.now) (Some _) None _ (sym c.member_count.ensures ∙ c.if-member_count-ne4.false) c.in_ok-name.ensures c.in_err-version.ensures refl)

pub returns-in_err-needs : goal.returns-in_err-needs
returns-in_err-needs c =
    rw c.from_residual-in_err-needs.ensures
    (publication_of (view c.args.value.now) (Some _) (Some _) None (sym c.member_count.ensures ∙ c.if-member_count-ne4.false) c.in_ok-name.ensures c.in_ok-version.ensures c.in_err-needs.ensures)

pub returns : goal.returns
returns c =
    publication_of (view c.args.value.now) (Some _) (Some _) (Some _) (sym c.member_count.ensures ∙ c.if-member_count-ne4.false) c.in_ok-name.ensures c.in_ok-version.ensures c.in_ok-needs.ensures
