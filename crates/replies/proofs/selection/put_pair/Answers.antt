use Rattle.std.proofs.Common.{◌≡◌, ◌++◌, codes, subst}
use Rattle.lines.specs.Texts.{Puts}
use Rattle.serde_json.specs.Written.{comma_if, compact_text}
use Rattle.replies.specs.Joined.{Waits}
use Rattle.replies.specs.Replies.{pair_json}
use Rattle.replies.proofs.PlainLemmas.{name-plain, version-plain}
use Rattle.replies.proofs.ReplyLemmas.{pair_text}
use Rattle.replies.proofs.selection.put_pair.Goals as goal

pub returns-clause-text : goal.returns-clause-text
returns-clause-text g c =
    let all : c.opening.result.now ++ (c.text.result.now ++ (codes "\",\"" ++ (c.text-2.result.now ++ codes "\"]")))
    ≡ comma_if c.args.later ++ compact_text (pair_json c.args.pair.now)
    = rw (c.opening.ensures, c.text.ensures.text, c.text-2.ensures.text)
    (pair_text c.args.later c.args.pair.now.0 c.args.pair.now.1 (name-plain c.args.pair.now.0 c.text.ensures.valid) (version-plain c.args.pair.now.1 c.text-2.ensures.valid)) in
    subst (Puts _ _ _ _ c.put_quoted.result) all c.put_quoted.ensures.text

pub returns-clause-waits : goal.returns-clause-waits
returns-clause-waits g c =
    let all : c.opening.result.now ++ (c.text.result.now ++ (codes "\",\"" ++ (c.text-2.result.now ++ codes "\"]")))
    ≡ comma_if c.args.later ++ compact_text (pair_json c.args.pair.now)
    = rw (c.opening.ensures, c.text.ensures.text, c.text-2.ensures.text)
    (pair_text c.args.later c.args.pair.now.0 c.args.pair.now.1 (name-plain c.args.pair.now.0 c.text.ensures.valid) (version-plain c.args.pair.now.1 c.text-2.ensures.valid)) in
    subst (Waits c.args.outbox.now c.put_quoted.new.outbox c.put_quoted.result) all c.put_quoted.ensures.waits
