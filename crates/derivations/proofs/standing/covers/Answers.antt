use Rattle.std.proofs.Common.{arith, refl}
use Rattle.derivations.proofs.Published.{covers_all}
use Rattle.derivations.proofs.standing.covers.Goals as goal

pub facts-requires : goal.facts-requires
facts-requires c =
    c.ordinals_are_below_the_count.ensures.published c.args.registry.now.packages c.args.premise.now.target c.loop-ordinal.ordinal (omega (arith, c.version_count-ordinal-end.ensures))

pub returns : goal.returns
returns c = (
  λ t. covers_all c.ordinals_are_below_the_count.ensures.no_other c.args.registry.now.packages c.args.premise.now c.loop-ordinal.ordinal
      (omega (arith, c.version_count-ordinal-end.ensures, c.loop-ordinal-test.false)) c.loop-ordinal.invariant,
  λ all. refl,
)
