use Rattle.std.proofs.Common.{◌∙◌, ap, arith, not, sym}
use Rattle.wire.specs.DerivedShapes.{line_said}
use Rattle.wire.specs.NamedShapes.{line_in}
use Rattle.wire.proofs.ItemLemmas.{each_passes, each_read, each_stops}
use Rattle.wire.proofs.request.line_shapes.are_lines.Goals as goal

pub returns-then-is_none : goal.returns-then-is_none
returns-then-is_none c =
    sym (each_stops line_in line_said c.line_in.result c.args.items.now c.loop-item.item-index c.item-item.result (omega arith) c.item-item.is c.line_in.ensures (c.is_none.ensures ∙ ap not c.if-is_none.true))
    ∙ c.loop-item.invariant

pub loop-item-preserved : goal.loop-item-preserved
loop-item-preserved c =
    each_passes line_in line_said c.line_in.result c.args.items.now c.loop-item.item-index c.item-item.result (omega arith) c.item-item.is c.line_in.ensures (c.is_none.ensures ∙ ap not c.if-is_none.false)
    ∙ c.loop-item.invariant

pub returns : goal.returns
returns c = sym (each_read line_in c.args.items.now c.loop-item.item-index (omega arith)) ∙ c.loop-item.invariant
