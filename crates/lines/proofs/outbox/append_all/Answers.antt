use Rattle.std.proofs.Common.{◌∙◌, ◌++◌, ap, arith, flat_map, length, length-append}
use Rattle.std.proofs.lemmas.List.{take_all}
use Rattle.std.proofs.lemmas.List.Folds.{length-flat_map-take}
use Rattle.lines.proofs.TextLemmas.{no_text, now_of, parts-waited}
use Rattle.lines.proofs.outbox.append_all.Goals as goal

pub append-requires : goal.append-requires
append-requires c =
    let here = simp length-append at (ap length c.loop-text.invariant.items) in
    omega (arith, here, length-flat_map-take now_of c.args.texts.now c.loop-text.text-index no_text c.loop-text-test.true, c.loop-text.invariant.capacity, c.loop-text.waiting.ok.0, c.args.waiting.now.ok.0)

pub loop-text-preserved : goal.loop-text-preserved
loop-text-preserved c = record {
  items = parts-waited c.args.texts.now c.loop-text.text-index _ c.args.waiting.now.items c.loop-text.waiting.items c.append.new.waiting.items c.loop-text-test.true c.loop-text.invariant.items c.append.ensures.items;
  capacity = omega (arith, c.append.ensures.capacity, c.loop-text.invariant.capacity);
}

pub returns-clause-items : goal.returns-clause-items
returns-clause-items c =
    c.loop-text.invariant.items ∙ ap (λ ts. c.args.waiting.now.items ++ flat_map now_of ts) (take_all c.loop-text.text-index c.args.texts.now (omega arith))
