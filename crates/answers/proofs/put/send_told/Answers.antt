use Rattle.replies.specs.Replies.{reply_text}
use Rattle.replies.specs.Replied.{body_of}
use Rattle.answers.specs.Told.{reply_from}
use Rattle.answers.proofs.PutLemmas.{puts_sent}
use Rattle.answers.proofs.put.send_told.Goals as goal

pub returns-in-Ok : goal.returns-in-Ok
returns-in-Ok g c =
    let puts = c.in-Ok.ensures in
    puts_sent c.send.result _ _ c.args.outbox.now _ (reply_text (reply_from c.args.at (body_of c.args.body))) c.send.ensures.empty (c.send.ensures.rest _ puts.0 _ puts.1 puts.2)
