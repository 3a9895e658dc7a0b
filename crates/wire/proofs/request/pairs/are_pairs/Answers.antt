use Rattle.std.proofs.Common.{◌∙◌, ap, arith, not, sym}
use Rattle.std.proofs.Common.{Bor}
use Rattle.versions.specs.Words.{Text}
use Rattle.wire.specs.Shapes.{pair_of}
use Rattle.wire.proofs.ItemLemmas.{each_passes, each_read, each_stops}
use Rattle.wire.proofs.request.pairs.are_pairs.Goals as goal

pub returns-then-is_none : goal.returns-then-is_none
returns-then-is_none c =
    sym (each_stops pair_of (λ (p : Bor Text × Bor Text). (p.0.now, p.1.now)) c.pair_of.result c.args.items.now c.loop-item.item-index c.item-item.result (omega arith) c.item-item.is c.pair_of.ensures (c.is_none.ensures ∙ ap not c.if-is_none.true))
    ∙ c.loop-item.invariant

pub loop-item-preserved : goal.loop-item-preserved
loop-item-preserved c =
    each_passes pair_of (λ (p : Bor Text × Bor Text). (p.0.now, p.1.now)) c.pair_of.result c.args.items.now c.loop-item.item-index c.item-item.result (omega arith) c.item-item.is c.pair_of.ensures (c.is_none.ensures ∙ ap not c.if-is_none.false)
    ∙ c.loop-item.invariant

pub returns : goal.returns
returns c = sym (each_read pair_of c.args.items.now c.loop-item.item-index (omega arith)) ∙ c.loop-item.invariant
