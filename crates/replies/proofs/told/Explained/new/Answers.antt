use Rattle.std.proofs.Common.{◌≡◌, ◌∙◌, Global, List, String, ap, map, string_bytes}
use Rattle.serde_json.specs.View.{view}
use Rattle.serde_json.specs.Written.{compact_text, has_float}
use Rattle.replies.specs.Replies.{texts_json}
use Rattle.replies.proofs.PlainJson.{texts_plain}
use Rattle.replies.proofs.told.Explained.new.Goals as goal

pub invariant_of-result : goal.invariant_of-result
invariant_of-result c =
    let lines : view c.in_ok-texts_json.field-0 ≡ texts_json (map (λ (t : String Global). string_bytes t) c.args.lines.items) =
    c.in_ok-texts_json.ensures ∙ ap (λ (list : List (String Global)). texts_json (map (λ (t : String Global). string_bytes t) list)) c.deref.ensures.value in (
      c.in_ok-derivation_text.ensures,
      c.in_ok-lines_text.ensures.text (ap has_float lines ∙ texts_plain (map (λ (t : String Global). string_bytes t) c.args.lines.items)) ∙ ap compact_text lines,
    )
