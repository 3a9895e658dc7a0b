use Rattle.std.proofs.Common.{◌≡◌, ◌++◌, subst}
use Rattle.lines.specs.Texts.{Puts}
use Rattle.replies.specs.Joined.{Waits}
use Rattle.serde_json.specs.Written.{comma_if, compact_text}
use Rattle.replies.specs.Replies.{version_json}
use Rattle.replies.proofs.PlainLemmas.{version-plain}
use Rattle.replies.proofs.ReplyLemmas.{version_text}
use Rattle.replies.proofs.listing.text.put_version.Goals as goal

pub returns-clause-text : goal.returns-clause-text
returns-clause-text g c =
    let parts : c.opening.result.now ++ (c.text.result.now ++ c.closing.result.now) ≡ comma_if c.args.later ++ compact_text (version_json (c.args.version.now, c.args.yanked)) =
    rw (c.opening.ensures, c.text.ensures.text, c.closing.ensures) (version_text c.args.later c.args.yanked c.args.version.now (version-plain c.args.version.now c.text.ensures.valid)) in
    subst (Puts _ _ _ _ c.put_parts.result) parts c.put_parts.ensures.text

pub returns-clause-waits : goal.returns-clause-waits
returns-clause-waits g c =
    let parts : c.opening.result.now ++ (c.text.result.now ++ c.closing.result.now) ≡ comma_if c.args.later ++ compact_text (version_json (c.args.version.now, c.args.yanked)) =
    rw (c.opening.ensures, c.text.ensures.text, c.closing.ensures) (version_text c.args.later c.args.yanked c.args.version.now (version-plain c.args.version.now c.text.ensures.valid)) in
    subst (Waits c.args.outbox.now c.put_parts.new.outbox c.put_parts.result) parts c.put_parts.ensures.waits
