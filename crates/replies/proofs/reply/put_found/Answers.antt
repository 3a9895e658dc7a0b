use Rattle.std.proofs.Common.{◌∙◌, subst}
use Rattle.lines.specs.Texts.{Puts}
use Rattle.replies.specs.Joined.{Waits}
use Rattle.replies.proofs.ReplyLemmas.{found_nowhere, found_somewhere}
use Rattle.replies.proofs.reply.put_found.Goals as goal

pub returns-in-None : goal.returns-in-None
returns-in-None g c =
    let digits = c.as_bytes-in-None.ensures.value ∙ c.format.ensures.text in
    let found = found_nowhere c.args.stamp c.args.revision c.args.between.now c.as_bytes.result.now c.as_bytes-in-None.result.now c.in-None.is c.as_bytes.ensures.value digits in
    record {
      text = subst (Puts _ _ _ _ c.put_all.result) found c.put_all.ensures.texts;
      waits = subst (Waits c.args.outbox.now c.put_all.new.self c.put_all.result) found c.put_all.ensures.waits;
      err = c.put_all.ensures.err;
      retried = c.put_all.ensures.retried;
    }

pub returns-in-Some : goal.returns-in-Some
returns-in-Some g c =
    let place = c.as_bytes-in-Some.ensures.value ∙ c.format-in-Some.ensures.text in
    let digits = c.as_bytes-in-Some-3.ensures.value ∙ c.format-in-Some-2.ensures.text in
    let seat = c.as_bytes-in-Some-4.ensures.value ∙ c.format-in-Some-3.ensures.text in
    let found = found_somewhere c.args.stamp c.in-Some.spot c.args.revision c.args.between.now c.as_bytes-in-Some.result.now c.as_bytes-in-Some-2.result.now c.as_bytes-in-Some-3.result.now
    c.as_bytes-in-Some-4.result.now c.in-Some.is place c.as_bytes-in-Some-2.ensures.value digits seat in
    record {
      text = subst (Puts _ _ _ _ c.put_all-in-Some.result) found c.put_all-in-Some.ensures.texts;
      waits = subst (Waits c.args.outbox.now c.put_all-in-Some.new.self c.put_all-in-Some.result) found c.put_all-in-Some.ensures.waits;
      err = c.put_all-in-Some.ensures.err;
      retried = c.put_all-in-Some.ensures.retried;
    }
