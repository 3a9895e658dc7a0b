use Rattle.releases.specs.Releases.{versions_of}
use Rattle.releases.proofs.Between.{between-matching, slice-from}
use Rattle.releases.proofs.ranked.Ranked.between.Goals as goal

pub returns : goal.returns
returns c =
    let whole = slice-from c.self.inside.rising.now c.place_of_edge-begin.result in
    let within = rw whole at c.place_of_edge-end.ensures.within in
    let before = rw whole at c.place_of_edge-end.ensures.before in
    let from = rw whole at c.place_of_edge-end.ensures.from in
    let plain = rw (← c.self.view_is) at c.requires.plain in
    rw (← c.self.view_is, whole) (λ need bounded.
    between-matching (versions_of c.self.inside.releases.now) c.self.inside.rising.now c.self.invariant.1 plain c.args.bounds.now c.requires.known
    c.place_of_edge-begin.result c.place_of_edge-end.result within c.place_of_edge-begin.ensures.within c.place_of_edge-begin.ensures.before c.place_of_edge-begin.ensures.from
    before from need bounded)
