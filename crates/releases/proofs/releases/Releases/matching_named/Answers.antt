use Rattle.std.proofs.Common.{arith}
use Rattle.releases.specs.Releases.{versions_of}
use Rattle.releases.proofs.MatchingLemmas.{placed-set}
use Rattle.releases.proofs.releases.Releases.matching_named.Goals as goal

pub returns-then-place-len : goal.returns-then-place-len
returns-then-place-len c =
    rw (← c.self.view_is) (placed-set (versions_of c.self.inside.releases.items) c.self.inside.needs.keys c.self.inside.sets.items c.args.place c.index.result.now
    c.self.invariant.matching (omega arith) c.index.ensures)
