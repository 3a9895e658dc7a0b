use Rattle.std.proofs.Common.{◌∙◌, None, Some, arith, refl, sym}
use Rattle.serde_json.specs.View.{view}
use Rattle.wire.specs.Members.{member_count}
use Rattle.wire.proofs.RequestLemmas.{other_count, premise_of}
use Rattle.wire.proofs.request.cause_shapes.premise_in.Goals as goal

pub returns-then-member_count-ne6 : goal.returns-then-member_count-ne6
returns-then-member_count-ne6 c =
    other_count (member_count (view c.args.value.now)) 6 _ (omega (arith, c.if-member_count-ne6.true, c.member_count.ensures))

pub returns-in_err-package : goal.returns-in_err-package
returns-in_err-package c =
    rw c.from_residual.ensures (premise_of (view c.args.value.now) None _ _ _ _ (sym c.member_count.ensures ∙ c.if-member_count-ne6.false) c.in_err-package.ensures refl refl refl refl)

pub returns-in_err-need : goal.returns-in_err-need
returns-in_err-need c =
    rw c.from_residual-in_err-need.ensures
    (premise_of (view c.args.value.now) (Some _) None _ _ _ (sym c.member_count.ensures ∙ c.if-member_count-ne6.false) c.in_ok-package.ensures c.in_err-need.ensures refl refl refl)

pub returns-in_err-target : goal.returns-in_err-target
returns-in_err-target c =
    rw c.from_residual-in_err-target.ensures
    (premise_of (view c.args.value.now) (Some _) (Some _) None _ _ (sym c.member_count.ensures ∙ c.if-member_count-ne6.false) c.in_ok-package.ensures c.in_ok-need.ensures c.in_err-target.ensures refl refl)

pub returns-in_err-versions : goal.returns-in_err-versions
returns-in_err-versions c =
    rw c.from_residual-in_err-versions.ensures
    (premise_of (view c.args.value.now) (Some _) (Some _) (Some _) None _ (sym c.member_count.ensures ∙ c.if-member_count-ne6.false) c.in_ok-package.ensures c.in_ok-need.ensures c.in_ok-target.ensures
    c.in_err-versions.ensures refl)

pub returns-in_err-within : goal.returns-in_err-within
returns-in_err-within c =
    rw c.from_residual-in_err-within.ensures
    (premise_of (view c.args.value.now) (Some _) (Some _) (Some _) (Some _) None (sym c.member_count.ensures ∙ c.if-member_count-ne6.false) c.in_ok-package.ensures c.in_ok-need.ensures c.in_ok-target.ensures
    c.in_ok-versions.ensures c.in_err-within.ensures)

pub returns : goal.returns
returns c =
    premise_of (view c.args.value.now) (Some _) (Some _) (Some _) (Some _) (Some _) (sym c.member_count.ensures ∙ c.if-member_count-ne6.false) c.in_ok-package.ensures c.in_ok-need.ensures c.in_ok-target.ensures
    c.in_ok-versions.ensures c.in_ok-within.ensures
