use Rattle.std.proofs.Common.{◌≡◌, ℕ, Option, None, Some, inl, subst, sym}
use Rattle.std.proofs.lemmas.Result.{IfOk-from_err, err_from_is_err_and}
use Rattle.versions.specs.declared.refusal.Refusal.{Refusal}
use Rattle.versions.specs.declared.refusal.Refusal.TheVariants as refusal
use Rattle.facts.specs.Tasks.{MayRefuse}
use Rattle.search.proofs.Using.{fell_on, fell_still, same_still}
use Rattle.search.proofs.propagating.use_places.Goals as goal

pub loop-i-preserved-in-Neither : goal.loop-i-preserved-in-Neither
loop-i-preserved-in-Neither c =
    let still = (rw c.in-Neither.is at c.in_ok-propagate_incompatibility.ensures.acts).0 in
    record {
      search = rw (still.0, still.1) c.loop-i.invariant.search;
      same = same_still c.args.search.now c.loop-i.search c.propagate_incompatibility.new.search c.loop-i.last c.loop-i.invariant.same still;
      left = c.loop-i.invariant.left;
      fell = fell_still c.args.search.now c.loop-i.search c.propagate_incompatibility.new.search c.loop-i.last c.loop-i.invariant.fell still;
    }

pub loop-i-preserved-in_ok-push-in-Derived : goal.loop-i-preserved-in_ok-push-in-Derived
loop-i-preserved-in_ok-push-in-Derived c =
    let on = rw c.in-Derived.is at c.in_ok-propagate_incompatibility.ensures.acts in
    record {
      search = on.0;
      same = tt;
      left = tt;
      fell = fell_on c.args.task.now c.args.search.now c.loop-i.search c.propagate_incompatibility.new.search c.loop-i.last c.loop-i.invariant.same c.loop-i.invariant.fell on;
    }

pub loop-i-preserved-in_default : goal.loop-i-preserved-in_default
loop-i-preserved-in_default c =
    let on = rw c.in-Derived.is at c.in_ok-propagate_incompatibility.ensures.acts in
    record {
      search = on.0;
      same = tt;
      left = tt;
      fell = fell_on c.args.task.now c.args.search.now c.loop-i.search c.propagate_incompatibility.new.search c.loop-i.last c.loop-i.invariant.same c.loop-i.invariant.fell on;
    }

pub returns-in-Backjumped-clause-acts : goal.returns-in-Backjumped-clause-acts
returns-in-Backjumped-clause-acts c =
    let on = rw c.in-Backjumped.is at c.in_ok-propagate_incompatibility.ensures.acts in
    (on.0, fell_on c.args.task.now c.args.search.now c.loop-i.search c.propagate_incompatibility.new.search c.loop-i.last c.loop-i.invariant.same c.loop-i.invariant.fell on)

pub returns-in-Refused-clause-acts : goal.returns-in-Refused-clause-acts
returns-in-Refused-clause-acts c = rw c.in-Refused.is at c.in_ok-propagate_incompatibility.ensures.acts

pub returns-in-None-clause-acts : goal.returns-in-None-clause-acts
returns-in-None-clause-acts c = rw c.in-None.is at c.loop-i.invariant.same

pub returns-in-Some-last-clause-acts : goal.returns-in-Some-last-clause-acts
returns-in-Some-last-clause-acts c = (c.loop-i.invariant.search, rw c.in-Some-last.is at c.loop-i.invariant.fell)

-- a lack of memory is refused with a budget and with none
may_refuse : (budget : Option ℕ) (e : Refusal) → e ≡ refusal.NoMemory → MayRefuse budget e
may_refuse None e is = is
may_refuse (Some n) e is = inl is

pub returns-in_err-propagate_incompatibility-clause-acts : goal.returns-in_err-propagate_incompatibility-clause-acts
returns-in_err-propagate_incompatibility-clause-acts c = IfOk-from_err _ _ c.from_residual.ensures.0

pub returns-in_err-propagate_incompatibility-clause-left : goal.returns-in_err-propagate_incompatibility-clause-left
returns-in_err-propagate_incompatibility-clause-left c =
    let err = err_from_is_err_and c.from_residual.result c.from_residual.ensures.1 in rw err.1 (λ is. cc)

pub returns-in_err-propagate_incompatibility-clause-only : goal.returns-in_err-propagate_incompatibility-clause-only
returns-in_err-propagate_incompatibility-clause-only c =
    let err = err_from_is_err_and c.from_residual.result c.from_residual.ensures.1 in
    rw err.1 (subst (MayRefuse c.args.task.now.options.budget) (sym err.2) c.in_err-propagate_incompatibility.ensures.only)

pub returns-in_err-push-in-Derived-clause-acts : goal.returns-in_err-push-in-Derived-clause-acts
returns-in_err-push-in-Derived-clause-acts c = IfOk-from_err _ _ c.from_residual-in_err-push-in-Derived.ensures.0

pub returns-in_err-push-in-Derived-clause-left : goal.returns-in_err-push-in-Derived-clause-left
returns-in_err-push-in-Derived-clause-left c =
    let err = err_from_is_err_and c.from_residual-in_err-push-in-Derived.result c.from_residual-in_err-push-in-Derived.ensures.1 in rw err.1 (λ is. cc)

pub returns-in_err-push-in-Derived-clause-only : goal.returns-in_err-push-in-Derived-clause-only
returns-in_err-push-in-Derived-clause-only c =
    let err = err_from_is_err_and c.from_residual-in_err-push-in-Derived.result c.from_residual-in_err-push-in-Derived.ensures.1 in rw err.1 (may_refuse c.args.task.now.options.budget err.0 err.2)
