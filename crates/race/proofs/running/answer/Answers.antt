use Rattle.std.proofs.Common.{ap, subst, ◌∙◌}
use Rattle.replies.specs.Replies.{reply_text}
use Rattle.answers.specs.Outcomes.{MayTell, TellsListing}
use Rattle.replies.specs.Replied.{body_of}
use Rattle.answers.specs.Told.{reply_from}
use Rattle.race.proofs.running.answer.Goals as goal

pub returns-in-Told : goal.returns-in-Told
returns-in-Told c =
    let lawful = rw c.in-Told.is at c.answer_line.ensures in
    (_, lawful, ap reply_text c.reply.ensures ∙ ap (λ at. reply_text (reply_from at (body_of c.in-Told.body))) c.standing.ensures)

pub returns-in-Found : goal.returns-in-Found
returns-in-Found c =
    let lawful = rw c.in-Found.is at c.answer_line.ensures in
    (_, lawful _ c.learn_all.ensures, ap reply_text c.reply-reply.ensures ∙ ap (λ at. reply_text (reply_from at (body_of c.in-Found.body))) c.standing-in-Found.ensures)

pub returns-in-Listing : goal.returns-in-Listing
returns-in-Listing c =
    let lawful = rw c.in-Listing.is at c.answer_line.ensures in
    let kept = c.keep_listing.ensures in (
      _,
      lawful kept.0 (subst (λ packages. MayTell (TellsListing packages) kept.0) c.registry.ensures kept.1),
      kept.2 ∙ ap (λ at. reply_text (reply_from at kept.0)) c.standing-in-Listing.ensures,
    )
