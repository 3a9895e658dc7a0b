use Rattle.std.proofs.Common.{◌≡◌, ◌∙◌, [], ◌++◌, codes, subst}
use Rattle.lines.specs.Texts.{Puts}
use Rattle.replies.specs.Joined.{Waits, found_text}
use Rattle.replies.specs.Replies.{explained, reply_text}
use Rattle.replies.proofs.ReplyLemmas.{explained_text}
use Rattle.replies.proofs.reply.put_explained.Goals as goal

pub returns-clause-text : goal.returns-clause-text
returns-clause-text g c =
    let derivation = c.as_bytes.ensures.value ∙ c.derivation_text.ensures in
    let lines = c.as_bytes-2.ensures.value ∙ c.lines_text.ensures in
    let all : (codes "{\"derivation\":" ++ (c.as_bytes.result.now ++ (codes ",\"explanation\":" ++ (c.as_bytes-2.result.now ++ (codes "," ++ [])))))
    ++ (found_text c.args.stamp c.args.revision (codes "\"refused\":true,") ++ codes "}\n")
    ≡ reply_text (record { revision = c.args.revision; stamp = c.args.stamp; body = explained c.args.reason.now.lines c.args.reason.now.texts })
    = rw (derivation, lines) (explained_text c.args.reason.now.lines c.args.reason.now.texts c.args.stamp c.args.revision) in
    subst (Puts _ _ _ _ c.put_around.result) all c.put_around.ensures.text

pub returns-clause-waits : goal.returns-clause-waits
returns-clause-waits g c =
    let derivation = c.as_bytes.ensures.value ∙ c.derivation_text.ensures in
    let lines = c.as_bytes-2.ensures.value ∙ c.lines_text.ensures in
    let all : (codes "{\"derivation\":" ++ (c.as_bytes.result.now ++ (codes ",\"explanation\":" ++ (c.as_bytes-2.result.now ++ (codes "," ++ [])))))
    ++ (found_text c.args.stamp c.args.revision (codes "\"refused\":true,") ++ codes "}\n")
    ≡ reply_text (record { revision = c.args.revision; stamp = c.args.stamp; body = explained c.args.reason.now.lines c.args.reason.now.texts })
    = rw (derivation, lines) (explained_text c.args.reason.now.lines c.args.reason.now.texts c.args.stamp c.args.revision) in
    subst (Waits c.args.outbox.now c.put_around.new.outbox c.put_around.result) all c.put_around.ensures.waits
