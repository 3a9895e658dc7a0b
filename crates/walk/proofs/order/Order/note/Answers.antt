use Rattle.std.proofs.Common.{◌≡◌, ◌∙◌, ◌+◌, ℕ, List, ap, arith, inl, inr, length, subst, sym}
use Rattle.std.specs.Prelude.{Some, slice_get}
use Rattle.std.proofs.lemmas.List.{length_push}
use Rattle.std.proofs.lemmas.Result.{IfOk-from_err}
use Rattle.walk.proofs.Lists.{pushed_at}
use Rattle.walk.proofs.order.Order.note.Goals as goal

pub loop-preserved : goal.loop-preserved
loop-preserved c =
    let here = c.loop.self in
    record {
      found = c.loop.invariant.found;
      stage = c.loop.invariant.stage;
      noted = ap length c.in_ok-push.ensures.items ∙ length_push here.stages.items here.stage ∙ ap (λ n. n + 1) c.loop.invariant.noted;
      stages = λ i stage at. elim (pushed_at here.stages.items here.stage i stage (subst (λ (l : List ℕ). slice_get l i ≡ Some stage) c.in_ok-push.ensures.items at)) [
        | inl before ↦ c.loop.invariant.stages i stage before
        | inr last ↦ inr (omega (arith, last.0, c.loop.invariant.noted), sym last.1 ∙ c.loop.invariant.stage)
      ];
    }

pub returns : goal.returns
returns c = record {
  found = c.loop.invariant.found;
  stage = c.loop.invariant.stage;
  noted = λ within. omega (arith, within, c.loop.invariant.noted);
  stages = c.loop.invariant.stages;
}

pub returns-in_err-push : goal.returns-in_err-push
returns-in_err-push c = IfOk-from_err c.from_residual.result _ c.from_residual.ensures.0
