use Rattle.std.proofs.Common.{ℕ, ap, drop, refl}
use Rattle.std.proofs.lemmas.Result.{err_from_is_err_and}
use Rattle.session.proofs.BatchLemmas.{tells_err, tells_next, tells_none, tells_ok, tells_then}
use Rattle.session.proofs.putting.try_put.Goals as goal

pub loop-at-init : goal.loop-at-init
loop-at-init g c = record { counted = c.requires; told = tells_none _ _ _ _ _ }

pub loop-at-preserved : goal.loop-at-preserved
loop-at-preserved g c =
    let at = c.loop-at in
    let one = c.index-asked-at in
    record {
      counted = refl;
      told = tells_ok _ _ _ _ _ _ _ _ _ _ _ _ refl (tells_then c.puts_add_up.ensures c.journals_grow.ensures.replay _ _ _ _ _ _ _ _ _ _ _ _ _ _ at.invariant.told
          (tells_next _ _ _ _ _ c.args.asked.now at.at one.result _ _ _ c.loop-at-test.true one.is c.in_ok-put_answer.ensures));
    }

pub returns-in_default-clause-told : goal.returns-in_default-clause-told
returns-in_default-clause-told g c =
    let at = c.loop-at in
    tells_ok _ _ _ _ _ _ _ _ _ _ _ _ (ap (λ (k : ℕ). drop k c.args.asked.now) at.invariant.counted) at.invariant.told

pub returns-in_err-put_answer-clause-told : goal.returns-in_err-put_answer-clause-told
returns-in_err-put_answer-clause-told g c =
    let at = c.loop-at in
    let one = c.index-asked-at in
    let err = err_from_is_err_and c.from_residual.result c.from_residual.ensures.1 in
    rw err.1 (tells_err _ _ _ _ _ _ _ _ _ _ _ _ _ (tells_then c.puts_add_up.ensures c.journals_grow.ensures.replay _ _ _ _ _ _ _ _ _ _ _ _ _ _ at.invariant.told
    (tells_next _ _ _ _ _ c.args.asked.now at.at one.result _ _ _ c.loop-at-test.true one.is c.in_err-put_answer.ensures)))

pub returns-clause-told : goal.returns-clause-told
returns-clause-told g c =
    let at = c.loop-at in
    tells_ok _ _ _ _ _ _ _ _ _ _ _ _ (ap (λ (k : ℕ). drop k c.args.asked.now) at.invariant.counted) at.invariant.told
