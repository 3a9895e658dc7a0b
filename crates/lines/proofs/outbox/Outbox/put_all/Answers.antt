use Rattle.std.proofs.Common.{sym, refl, ◌∙◌, ap, List, ℕ, ◌++◌, flat_map, arith}
use Rattle.std.proofs.lemmas.List.{take_all}
use Rattle.std.proofs.lemmas.Result.{err_from_is_err_and}
use Rattle.lines.proofs.TextLemmas.{put_after, put_after_failed, parts-more, parts-split, parts-wait, parts-waited, now_of}
use Rattle.lines.proofs.outbox.Outbox.put_all.Goals as goal

pub returns-in_err-put-clause-texts : goal.returns-in_err-put-clause-texts
returns-in_err-put-clause-texts g c =
    let done = c.loop-text.invariant.put in
    let here = c.in_err-put.ensures.text in
    let err = err_from_is_err_and c.from_residual.result c.from_residual.ensures.1 in
    rw err.1 (put_after_failed _ _ _ c.args.self.now c.loop-text.self _ _ _ _ done.0 here.0 done.1 done.2 here.1 here.2 (parts-split c.args.texts.now c.loop-text.text-index _ c.loop-text-test.true))

pub returns-in_err-put-clause-waits : goal.returns-in_err-put-clause-waits
returns-in_err-put-clause-waits g c = λ fits.
    let front = parts-wait c.args.texts.now c.loop-text.text-index _ c.args.self.now c.loop-text.self c.loop-text-test.true (c.loop-text.invariant.waits fits) fits in
    let here = (c.in_err-put.ensures.waits front).0 in
    absurd (cc)

pub loop-text-preserved : goal.loop-text-preserved
loop-text-preserved g c =
    let done = c.loop-text.invariant.put in
    let here = c.in_ok-put.ensures.text in
    let within = c.loop-text-test.true in
    let both = put_after _ _ _ c.args.self.now c.loop-text.self c.put.new.self _ _ done.0 here.0 done.1 done.2 here.1 here.2 in
    record {
      put = (both.0, both.1, both.2 ∙ ap (λ (l : List ℕ). c.args.self.now ++ l) (sym (parts-more c.args.texts.now c.loop-text.text-index _ within)));
      waits = λ fits. let before = c.loop-text.invariant.waits fits in
          let front = parts-wait c.args.texts.now c.loop-text.text-index _ c.args.self.now c.loop-text.self within before fits in
          parts-waited c.args.texts.now c.loop-text.text-index _ c.args.self.now c.loop-text.self c.put.new.self within before (c.in_ok-put.ensures.waits front).1;
    }

pub returns-clause-waits : goal.returns-clause-waits
returns-clause-waits g c = λ fits. (refl, c.loop-text.invariant.waits fits ∙ ap (λ ts. c.args.self.now ++ flat_map now_of ts) (take_all c.loop-text.text-index c.args.texts.now (omega arith)))
