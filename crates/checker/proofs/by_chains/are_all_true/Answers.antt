use Rattle.std.proofs.Common.{◌∙◌, arith, refl, sym}
use Rattle.std.proofs.lemmas.Option.{slice_get_read, slice_get_within}
use Rattle.checker.proofs.Ruling.{all-true, first_true-more}
use Rattle.checker.proofs.by_chains.are_all_true.Goals as goal

pub loop-on-preserved : goal.loop-on-preserved
loop-on-preserved c =
    let terms = c.args.terms.now in
    let item = c.loop-on-item.result in
    first_true-more terms c.args.before.now.entries c.args.pkg c.args.ordinal c.loop-on.on-index item c.in-Some.chosen
    (slice_get_read terms _ c.loop-on.on-index item refl c.loop-on-test.true c.loop-on-item.is) c.in-Some.ensures (sym c.allows.ensures ∙ c.if-not-allows.false) c.loop-on.invariant

pub returns : goal.returns
returns c = λ yes t has chosen.
    let terms = c.args.terms.now in
    all-true terms _ (λ n e at. c.loop-on.invariant t has chosen n e (omega (arith, slice_get_within terms n e at, c.loop-on-test.false)) at)
