use Rattle.std.proofs.Common.{◌≡◌, refl, arith, take}
use Rattle.std.proofs.lemmas.List.{take_all}
use Rattle.std.proofs.lemmas.Option.{slice_get_read}
use Rattle.std.proofs.lemmas.Result.{err_from_is_err_and}
use Rattle.std.proofs.lemmas.Bool.{false≢true}
use Rattle.replies.specs.Replies.{pair_json}
use Rattle.replies.proofs.PutLemmas.{fails_in, in_fails, in_put, put_in, value_fails, value_put, value_room, value_waits}
use Rattle.replies.proofs.selection.put_selected.Goals as goal

pub returns-in_err-put_pair-clause-text : goal.returns-in_err-put_pair-clause-text
returns-in_err-put_pair-clause-text g c =
    let err = err_from_is_err_and c.from_residual.result c.from_residual.ensures.1 in
    let here = slice_get_read c.args.pairs.now _ c.loop-place.place _ refl c.loop-place-test.true c.index-pairs-place.is in
    rw err.1 (in_fails (value_fails pair_json c.args.pairs.now c.loop-place.place _ here c.loop-place.invariant.put (fails_in c.in_err-put_pair.ensures.text)))

pub returns-in_err-put_pair-clause-waits : goal.returns-in_err-put_pair-clause-waits
returns-in_err-put_pair-clause-waits g c = λ fits.
    let here = slice_get_read c.args.pairs.now _ c.loop-place.place _ refl c.loop-place-test.true c.index-pairs-place.is in
    let room = value_room pair_json c.args.pairs.now c.loop-place.place _ here c.args.outbox.now c.loop-place.outbox fits (c.loop-place.invariant.waits fits) in
    let failed = (c.in_err-put_pair.ensures.waits room).0 in
    absurd (false≢true failed)

pub loop-place-preserved : goal.loop-place-preserved
loop-place-preserved g c =
    let here = slice_get_read c.args.pairs.now _ c.loop-place.place _ refl c.loop-place-test.true c.index-pairs-place.is in
    record {
      put = value_put pair_json c.args.pairs.now c.loop-place.place _ here c.loop-place.invariant.put (put_in c.in_ok-put_pair.ensures.text);
      waits = λ fits. let before = c.loop-place.invariant.waits fits in
          let room = value_room pair_json c.args.pairs.now c.loop-place.place _ here c.args.outbox.now c.loop-place.outbox fits before in
          value_waits pair_json c.args.pairs.now c.loop-place.place _ here c.args.outbox.now c.loop-place.outbox c.put_pair.new.outbox before
          (c.in_ok-put_pair.ensures.waits room).1;
    }

pub returns-clause-text : goal.returns-clause-text
returns-clause-text g c =
    let all : take c.loop-place.place c.args.pairs.now ≡ c.args.pairs.now = take_all _ _ (omega arith) in
    in_put (rw all at c.loop-place.invariant.put)

pub returns-clause-waits : goal.returns-clause-waits
returns-clause-waits g c = λ fits.
    let all : take c.loop-place.place c.args.pairs.now ≡ c.args.pairs.now = take_all _ _ (omega arith) in
    (refl, rw all at (c.loop-place.invariant.waits fits))
