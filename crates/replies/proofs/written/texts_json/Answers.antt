use Rattle.std.proofs.Common.{◌∙◌, Global, List, String, arith, ap, refl, string_bytes, sym}
use Rattle.std.proofs.lemmas.Option.{slice_get_read}
use Rattle.std.proofs.lemmas.Simd.{map-map}
use Rattle.serde_json.specs.Data.{Data, array, string}
use Rattle.serde_json.specs.View.{items_of, view}
use Rattle.replies.proofs.WrittenLemmas.{array_of, values_more}
use Rattle.replies.proofs.written.texts_json.Goals as goal

pub loop-text-preserved : goal.loop-text-preserved
loop-text-preserved c =
    let here = slice_get_read c.args.texts.now _ c.loop-text.text-index _ refl c.loop-text-test.true c.text-item.is in
    rw c.in_ok-push.ensures.items
    (values_more (λ (t : String Global). string (string_bytes t)) c.args.texts.now c.loop-text.text-index c.text-item.result c.loop-text.values.items c.in_ok-text_json.field-0 here c.loop-text.invariant
    (c.in_ok-text_json.ensures ∙ ap string c.as_str.ensures.value))

pub returns : goal.returns
returns c =
    array_of (λ (t : String Global). string (string_bytes t)) c.args.texts.now c.loop-text.text-index c.loop-text.values.items (view c.from.result) (omega arith) c.loop-text.invariant c.from.ensures
    ∙ sym (ap (λ (ds : List Data). array (items_of ds)) (map-map string (λ (t : String Global). string_bytes t) c.args.texts.now))
