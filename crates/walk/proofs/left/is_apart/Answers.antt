use Rattle.std.proofs.Common.{arith}
use Rattle.walk.proofs.Bests.{published_within}
use Rattle.walk.proofs.left.is_apart.Goals as goal

pub returns : goal.returns
returns c = λ yes k published said there.
    let within = published_within c.args.registry.now.packages c.args.pkg k published in
    c.loop-at.invariant k (omega (arith, within, c.version_count-count.ensures)) (omega (arith, c.loop-at-test.false)) said there
