use Rattle.std.proofs.Common.{◌≡◌, ◌∙◌, [], ◌++◌, codes, subst}
use Rattle.lines.specs.Texts.{Puts}
use Rattle.replies.specs.Joined.{Waits, found_text}
use Rattle.replies.specs.Replies.{follows, reply_text}
use Rattle.replies.proofs.ReplyLemmas.{follows_text}
use Rattle.replies.proofs.reply.put_follows.Goals as goal

pub returns-clause-text : goal.returns-clause-text
returns-clause-text g c =
    let front = c.as_bytes.ensures.value ∙ c.verdict.ensures in
    let all : (c.as_bytes.result.now ++ []) ++ (found_text c.args.stamp c.args.revision [] ++ codes "}\n")
    ≡ reply_text (record { revision = c.args.revision; stamp = c.args.stamp; body = follows c.args.yes })
    = rw front (follows_text c.args.yes c.args.stamp c.args.revision) in
    subst (Puts _ _ _ _ c.put_around.result) all c.put_around.ensures.text

pub returns-clause-waits : goal.returns-clause-waits
returns-clause-waits g c =
    let front = c.as_bytes.ensures.value ∙ c.verdict.ensures in
    let all : (c.as_bytes.result.now ++ []) ++ (found_text c.args.stamp c.args.revision [] ++ codes "}\n")
    ≡ reply_text (record { revision = c.args.revision; stamp = c.args.stamp; body = follows c.args.yes })
    = rw front (follows_text c.args.yes c.args.stamp c.args.revision) in
    subst (Waits c.args.outbox.now c.put_around.new.outbox c.put_around.result) all c.put_around.ensures.waits
