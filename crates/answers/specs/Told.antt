-- What is told in reply to a line, and where.
use Rattle.replies.specs.Replies.{Body, Reply}
use Rattle.answers.specs.declared.told.ReplyStamp.{ReplyStamp}

-- the reply that tells this, with where it was found
abbrev pub reply_from : ReplyStamp → Body → Reply
reply_from at body = record { revision = at.revision; stamp = at.stamp; body = body }
