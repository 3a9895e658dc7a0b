use Rattle.std.proofs.Common.{◌≡◌, ◌≤◌, List, Some, ap, arith, length, refl, subst}
use Rattle.std.specs.List.{slice_get}
use Rattle.std.proofs.lemmas.Option.{slice_get_read}
use Rattle.derivations.specs.Lines.{Line}
use Rattle.std.proofs.lemmas.Result.{IfOk-from_err}
use Rattle.checker.proofs.Reused.{AreLeft-at, AreLeft-end, AreLeft-more, AreLeft-start}
use Rattle.facts.specs.Pushing.{extends_on, same_lines}
use Rattle.checker.proofs.members.push_learnt.Goals as goal

pub loop-line-init : goal.loop-line-init
loop-line-init c = record {
  extends = same_lines;
  left = AreLeft-start c.args.task.now.registry.now.packages c.args.known.now.items c.in_ok-places.places.items 0 c.args.learnt.now c.args.learnt.now c.in_ok-places.ensures.items refl c.lines-lines.ensures.lawful.derived c.requires;
}

pub push_line-requires : goal.push_line-requires
push_line-requires c =
    let here : slice_get c.args.learnt.now c.loop-line.line-index ≡ Some c.line-item.result =
    subst (λ (ls : List Line). slice_get ls c.loop-line.line-index ≡ Some c.line-item.result) c.lines-lines.ensures.same
    (slice_get_read c.lines-lines.result.now _ c.loop-line.line-index _ refl c.loop-line-test.true c.line-item.is) in
    rw c.deref.ensures.value (AreLeft-at c.args.task.now.registry.now.packages c.loop-line.known.items c.loop-line.places.items c.loop-line.at c.loop-line.line-index c.args.learnt.now c.line-item.result here c.loop-line.invariant.left)

pub loop-line-preserved : goal.loop-line-preserved
loop-line-preserved c =
    let here : slice_get c.args.learnt.now c.loop-line.line-index ≡ Some c.line-item.result =
    subst (λ (ls : List Line). slice_get ls c.loop-line.line-index ≡ Some c.line-item.result) c.lines-lines.ensures.same
    (slice_get_read c.lines-lines.result.now _ c.loop-line.line-index _ refl c.loop-line-test.true c.line-item.is) in
    record {
      extends = extends_on c.loop-line.invariant.extends c.in_ok-at.ensures.extends;
      left = AreLeft-more c.args.task.now.registry.now.packages c.loop-line.known.items c.push_line.new.known.items c.loop-line.places.items c.push.new.self.items c.loop-line.at c.in_ok-at.at c.loop-line.line-index
          c.args.learnt.now c.line-item.result here c.in_ok-at.ensures.extends.keeps c.in_ok-at.ensures.place c.in_ok-push.ensures.items c.loop-line.invariant.left;
    }

pub returns-clause-place : goal.returns-clause-place
returns-clause-place c =
    let le : length c.args.learnt.now ≤ c.loop-line.line-index = omega (arith, c.loop-line-test.false, ap length c.lines-lines.ensures.same) in
    AreLeft-end c.args.task.now.registry.now.packages c.loop-line.known.items c.loop-line.places.items c.loop-line.at c.loop-line.line-index c.args.learnt.now le c.loop-line.invariant.left

-- where memory is refused

pub returns-in_err-at : goal.returns-in_err-at
returns-in_err-at c = let failed = c.from_residual-in_err-at in record { extends = IfOk-from_err failed.result _ failed.ensures.0; place = IfOk-from_err failed.result _ failed.ensures.0 }

pub returns-in_err-places : goal.returns-in_err-places
returns-in_err-places c = let failed = c.from_residual in record { extends = IfOk-from_err failed.result _ failed.ensures.0; place = IfOk-from_err failed.result _ failed.ensures.0 }

pub returns-in_err-push : goal.returns-in_err-push
returns-in_err-push c = let failed = c.from_residual-in_err-push in record { extends = IfOk-from_err failed.result _ failed.ensures.0; place = IfOk-from_err failed.result _ failed.ensures.0 }
