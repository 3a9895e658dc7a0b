use Rattle.std.proofs.Common.{◌≡◌, ◌∙◌, [], ◌++◌, ap, codes, decimal, subst}
use Rattle.lines.specs.Texts.{Puts}
use Rattle.replies.specs.Joined.{Waits, found_text}
use Rattle.replies.specs.Replies.{refused, reply_text}
use Rattle.replies.proofs.ReplyLemmas.{refused_text}
use Rattle.replies.proofs.reply.put_refusal.Goals as goal

pub returns-clause-text : goal.returns-clause-text
returns-clause-text g c =
    let number = c.as_bytes.ensures.value ∙ c.format.ensures.text ∙ ap decimal c.number.ensures in
    let name = c.as_bytes-2.ensures.value ∙ c.name.ensures in
    let all : (codes "{\"error\":" ++ (c.as_bytes.result.now ++ (codes ",\"name\":\"" ++ (c.as_bytes-2.result.now ++ (codes "\"," ++ []))))) ++ (found_text c.args.stamp c.args.revision [] ++ codes "}\n")
    ≡ reply_text (record { revision = c.args.revision; stamp = c.args.stamp; body = refused c.args.refusal })
    = rw (number, name) (refused_text c.args.refusal c.args.stamp c.args.revision) in
    subst (Puts _ _ _ _ c.put_around.result) all c.put_around.ensures.text

pub returns-clause-waits : goal.returns-clause-waits
returns-clause-waits g c =
    let number = c.as_bytes.ensures.value ∙ c.format.ensures.text ∙ ap decimal c.number.ensures in
    let name = c.as_bytes-2.ensures.value ∙ c.name.ensures in
    let all : (codes "{\"error\":" ++ (c.as_bytes.result.now ++ (codes ",\"name\":\"" ++ (c.as_bytes-2.result.now ++ (codes "\"," ++ []))))) ++ (found_text c.args.stamp c.args.revision [] ++ codes "}\n")
    ≡ reply_text (record { revision = c.args.revision; stamp = c.args.stamp; body = refused c.args.refusal })
    = rw (number, name) (refused_text c.args.refusal c.args.stamp c.args.revision) in
    subst (Waits c.args.outbox.now c.put_around.new.outbox c.put_around.result) all c.put_around.ensures.waits
