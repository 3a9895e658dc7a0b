use Rattle.std.proofs.Common.{◌∙◌, List, arith, ap, map, refl}
use Rattle.std.proofs.lemmas.Option.{slice_get_read}
use Rattle.serde_json.specs.Data.{array}
use Rattle.serde_json.specs.View.{items_of, view}
use Rattle.replies.specs.NamedJson.{derivation_json, line_json}
use Rattle.by_name.specs.NamedLines.{NamedLine}
use Rattle.replies.proofs.WrittenLemmas.{array_of, values_more}
use Rattle.replies.proofs.written.derivation_json.Goals as goal

pub loop-line-preserved : goal.loop-line-preserved
loop-line-preserved c =
    let here = slice_get_read c.lines-lines.result.now _ c.loop-line.line-index _ refl c.loop-line-test.true c.line-item.is in
    rw c.in_ok-push.ensures.items
    (values_more line_json c.lines-lines.result.now c.loop-line.line-index c.line-item.result c.loop-line.values.items c.in_ok-line_json.field-0 here c.loop-line.invariant c.in_ok-line_json.ensures)

pub returns : goal.returns
unfolding derivation_json
returns c =
    array_of line_json c.lines-lines.result.now c.loop-line.line-index c.loop-line.values.items (view c.from.result) (omega arith) c.loop-line.invariant c.from.ensures
    ∙ ap (λ (lines : List NamedLine). array (items_of (map line_json lines))) c.lines-lines.ensures
