use Rattle.std.proofs.Common.{◌∙◌, None, Some, arith, refl, sym}
use Rattle.serde_json.specs.View.{view}
use Rattle.wire.specs.Members.{member_count}
use Rattle.wire.proofs.RequestLemmas.{line_of, other_count}
use Rattle.wire.proofs.request.line_shapes.line_in.Goals as goal

pub returns-then-member_count-ne3 : goal.returns-then-member_count-ne3
returns-then-member_count-ne3 c =
    other_count (member_count (view c.args.value.now)) 3 _ (omega (arith, c.if-member_count-ne3.true, c.member_count.ensures))

pub returns-in_err-causes : goal.returns-in_err-causes
returns-in_err-causes c =
    rw c.from_residual.ensures (line_of (view c.args.value.now) None _ _ (sym c.member_count.ensures ∙ c.if-member_count-ne3.false) c.in_err-causes.ensures refl refl)

pub returns-in_err-conclusion : goal.returns-in_err-conclusion
returns-in_err-conclusion c =
    rw c.from_residual-in_err-conclusion.ensures
    (line_of (view c.args.value.now) (Some _) None _ (sym c.member_count.ensures ∙ c.if-member_count-ne3.false) c.in_ok-causes.ensures c.in_err-conclusion.ensures refl)

pub returns-in_err-pivot : goal.returns-in_err-pivot
returns-in_err-pivot c =
    rw c.from_residual-in_err-pivot.ensures
    (line_of (view c.args.value.now) (Some _) (Some _) None (sym c.member_count.ensures ∙ c.if-member_count-ne3.false) c.in_ok-causes.ensures c.in_ok-conclusion.ensures c.in_err-pivot.ensures)

pub returns : goal.returns
returns c =
    line_of (view c.args.value.now) (Some _) (Some _) (Some _) (sym c.member_count.ensures ∙ c.if-member_count-ne3.false) c.in_ok-causes.ensures c.in_ok-conclusion.ensures c.in_ok-pivot.ensures
