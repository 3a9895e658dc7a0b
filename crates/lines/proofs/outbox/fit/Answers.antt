use Rattle.std.proofs.Common.{ap, arith, length, flat_map}
use Rattle.std.proofs.lemmas.List.{take_all}
use Rattle.lines.proofs.TextLemmas.{no_text, now_of, parts-count}
use Rattle.lines.proofs.outbox.fit.Goals as goal

pub loop-text-preserved : goal.loop-text-preserved
loop-text-preserved c = omega (arith, parts-count c.args.texts.now c.loop-text.text-index no_text c.loop-text-test.true)

pub returns : goal.returns
returns c = λ fits.
    let all = ap (λ ts. length (flat_map now_of ts)) (take_all c.loop-text.text-index c.args.texts.now (omega arith)) in
    omega (arith, all)
