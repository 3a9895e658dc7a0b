use Rattle.std.proofs.Common.{◌≡◌, ℕ, List, Some, ◌+◌, ◌++◌, ap, arith, length, refl, subst, sym, ◌∙◌}
use Rattle.std.proofs.lemmas.List.{drop_all}
use Rattle.std.proofs.lemmas.Option.{slice_get_read}
use Rattle.std.proofs.lemmas.Result.{err_from_is_err_and}
use Rattle.std.specs.Prelude.{slice_get}
use Rattle.registry.specs.Registry.{Packages}
use Rattle.registry.specs.Requests.{Wanted}
use Rattle.oracle.specs.declared.options.Options.{Options}
use Rattle.pool.specs.Answering.{IsAnswerTo}
use Rattle.session.specs.Batches.{Question}
use Rattle.session.proofs.BatchLemmas.{tells_before, tells_next}
use Rattle.session.proofs.KeptLemmas.{telling_left, telling_puts}
use Rattle.session.proofs.telling.tell_each.Goals as goal

pub loop-place-init : goal.loop-place-init
loop-place-init g c = record { count = c.requires.none; told = λ behind a t. t }

pub is_ready-is_ready-requires : goal.is_ready-is_ready-requires
is_ready-is_ready-requires g c =
    let count = c.loop-place.invariant.count in let all = ap length c.requires.asked in let inside = c.loop-place-test.true in omega arith

pub next-answer-requires : goal.next-answer-requires
next-answer-requires g c =
    let count = c.loop-place.invariant.count in let same = c.is_ready-is_ready.ensures in let all = ap length c.requires.asked in let inside = c.loop-place-test.true in omega arith

pub put_answer-requires : goal.put_answer-requires
put_answer-requires g c =
    let at = c.loop-place in
    let one = c.index-asked-place in
    let asked = c.requires.asked in
    let place = c.is_ready-is_ready.ensures ∙ at.invariant.count in
    let here = slice_get_read c.args.asked.now _ at.place one.result refl c.loop-place-test.true one.is in
    subst (λ (packages : Packages). IsAnswerTo packages one.result c.next-answer.result) c.requires.packages
    (c.next-answer.ensures.answer one.result (subst (λ (x : List (Wanted × Options) × ℕ). slice_get x.0 x.1 ≡ Some one.result) (λ i. (sym asked i, sym place i)) here))

pub loop-place-preserved : goal.loop-place-preserved
loop-place-preserved g c =
    let at = c.loop-place in
    let one = c.index-asked-place in
    record {
      count = c.next-answer.ensures.one ∙ ap (λ n. n + 1) (c.is_ready-is_ready.ensures ∙ at.invariant.count);
      told = λ behind a t. telling_puts c.sessions_go_on.ensures (c.in_ok-commit_if.ensures _ _ a (at.invariant.told behind a t)) _ _ _ _ _
          (tells_before _ _ _ _ _ _ _ behind _ _ _ (tells_next _ _ _ _ _ c.args.asked.now at.place one.result _ _ _ c.loop-place-test.true one.is c.in_ok-put_answer.ensures));
    }

pub returns-in_err-commit_if : goal.returns-in_err-commit_if
returns-in_err-commit_if g c = λ behind a t.
    let err = err_from_is_err_and c.from_residual.result c.from_residual.ensures.1 in
    rw err.1 (c.in_err-commit_if.ensures _ _ a (c.loop-place.invariant.told behind a t))

pub returns-in_err-put_answer : goal.returns-in_err-put_answer
returns-in_err-put_answer g c = λ behind a t.
    let at = c.loop-place in
    let one = c.index-asked-place in
    let err = err_from_is_err_and c.from_residual-in_err-put_answer.result c.from_residual-in_err-put_answer.ensures.1 in
    rw err.1 (telling_puts c.sessions_go_on.ensures (c.in_ok-commit_if.ensures _ _ a (at.invariant.told behind a t)) _ _ _ _ _
    (tells_before _ _ _ _ _ _ _ behind _ _ _ (tells_next _ _ _ _ _ c.args.asked.now at.place one.result _ _ _ c.loop-place-test.true one.is c.in_err-put_answer.ensures)))

pub returns : goal.returns
returns g c = λ behind a t.
    let at = c.loop-place in
    telling_left behind (ap (λ (l : List Question). l ++ behind) (drop_all at.place c.args.asked.now c.loop-place-test.false)) (at.invariant.told behind a t)
