use Rattle.std.proofs.Common.{◌∙◌, ap, arith, not, sym}
use Rattle.wire.specs.DerivedShapes.{term_said}
use Rattle.wire.specs.NamedShapes.{term_in}
use Rattle.wire.proofs.ItemLemmas.{each_passes, each_read, each_stops}
use Rattle.wire.proofs.request.term_shapes.are_terms.Goals as goal

pub returns-then-is_none : goal.returns-then-is_none
returns-then-is_none c =
    sym (each_stops term_in term_said c.term_in.result c.args.items.now c.loop-item.item-index c.item-item.result (omega arith) c.item-item.is c.term_in.ensures (c.is_none.ensures ∙ ap not c.if-is_none.true))
    ∙ c.loop-item.invariant

pub loop-item-preserved : goal.loop-item-preserved
loop-item-preserved c =
    each_passes term_in term_said c.term_in.result c.args.items.now c.loop-item.item-index c.item-item.result (omega arith) c.item-item.is c.term_in.ensures (c.is_none.ensures ∙ ap not c.if-is_none.false)
    ∙ c.loop-item.invariant

pub returns : goal.returns
returns c = sym (each_read term_in c.args.items.now c.loop-item.item-index (omega arith)) ∙ c.loop-item.invariant
