-- Replies as they are kept, by what they tell.
use Rattle.replies.specs.Replies.{Body, Reply, accepted, explained, follows, listed, no_selection, refused, selected}
use Rattle.replies.specs.declared.reply.Body.{Body as Kept}
use Rattle.replies.specs.declared.reply.Body.TheVariants as kept
use Rattle.replies.specs.declared.reply.Reply.{Reply as KeptReply}

abbrev pub body_of : Kept → Body
body_of kept.Accepted = accepted
body_of (kept.Refusal refusal) = refused refusal
body_of (kept.Selection pairs) = selected pairs.items
body_of kept.NoSelection = no_selection
body_of (kept.Explained reason) = explained reason.lines reason.texts
body_of (kept.Follows holds) = follows holds
body_of (kept.Listing rows) = listed rows

abbrev pub reply_of : KeptReply → Reply
reply_of reply = record { revision = reply.revision; stamp = reply.stamp; body = body_of reply.body }
