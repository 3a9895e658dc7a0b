use Rattle.std.proofs.Common.{arith}
use Rattle.std.proofs.lemmas.Option.{slice_get-get_or}
use Rattle.serde_json.specs.View.{view}
use Rattle.replies.specs.NamedJson.{number_json}
use Rattle.replies.proofs.WrittenLemmas.{array_of, values_more}
use Rattle.replies.proofs.written.numbers_json.Goals as goal

pub loop-ordinal-preserved : goal.loop-ordinal-preserved
loop-ordinal-preserved c =
    let here = slice_get-get_or c.args.ordinals.now c.loop-ordinal.ordinal-index 0 c.loop-ordinal-test.true in
    rw c.in_ok-push.ensures.items
    (values_more number_json c.args.ordinals.now c.loop-ordinal.ordinal-index _ c.loop-ordinal.values.items c.from.result here c.loop-ordinal.invariant c.from.ensures)

pub returns : goal.returns
returns c =
    array_of number_json c.args.ordinals.now c.loop-ordinal.ordinal-index c.loop-ordinal.values.items (view c.from-2.result) (omega arith) c.loop-ordinal.invariant c.from-2.ensures
