use Rattle.std.proofs.Common.{◌∙◌, ap}
use Rattle.serde_json.specs.Written.{compact_text, has_float}
use Rattle.replies.proofs.PlainJson.{derivation_plain}
use Rattle.replies.proofs.written.derivation_text.Goals as goal

pub returns : goal.returns
returns c =
    let json = c.in_ok-derivation_json.ensures in
    c.in_ok-text.ensures.text (ap has_float json ∙ derivation_plain c.args.derivation.now) ∙ ap compact_text json
