use Rattle.std.proofs.Common.{◌∙◌, ◌≤◌, List, Ok, ap, arith, length, map, sym}
use Rattle.semver.specs.Identifiers.{comparator_view}
use Rattle.semver.specs.declared.Comparator.{Comparator}
use Rattle.versions.proofs.BoundLemmas.{bounded, bounded-more}
use Rattle.versions.proofs.bounds.Bounds.of.Goals as goal

pub loop-comparator-preserved : goal.loop-comparator-preserved
loop-comparator-preserved c =
    bounded-more c.deref-comparator-items.result.now c.loop-comparator.comparator-index c.comparator-item.result c.loop-comparator.bounds c.narrowed-bounds.result c.loop-comparator-test.true
    c.comparator-item.is c.narrowed-bounds.ensures.range c.narrowed-bounds.ensures.opens c.loop-comparator.invariant

pub returns : goal.returns
returns c =
    let all : length c.deref-comparator-items.result.now ≤ c.loop-comparator.comparator-index = omega arith in
    bounded c.args.need.now c.deref-comparator-items.result.now c.loop-comparator.comparator-index c.loop-comparator.bounds
    (c.parsed.ensures ∙ ap (λ (cs : List Comparator). Ok (map comparator_view cs)) (sym c.deref-comparator-items.ensures.value)) all c.loop-comparator.invariant
