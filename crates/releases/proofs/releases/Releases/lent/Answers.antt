use Rattle.std.proofs.Common.{◌∙◌, List, ap, arith}
use Rattle.terms.specs.Sets.{has}
use Rattle.versions.specs.Words.{Text}
use Rattle.releases.specs.Releases.{meeting, versions_of}
use Rattle.releases.proofs.MatchingLemmas.{placed-bounds, placed-matching}
use Rattle.releases.proofs.Meeting.{has-meeting}
use Rattle.releases.proofs.releases.Releases.lent.Goals as goal

pub returns-then-place-len : goal.returns-then-place-len
returns-then-place-len c =
    let at = rw (← c.self.view_is) at c.requires in
    rw (← c.self.view_is) (placed-matching (versions_of c.self.inside.releases.items) c.self.inside.needs.keys c.self.inside.sets.items c.args.need.now c.args.place c.index.result.now
    c.self.invariant.matching at (omega arith) c.index.ensures)

pub new-requires : goal.new-requires
new-requires c =
    let at = rw (← c.self.view_is) at c.requires in
    placed-bounds c.self.inside.needs.keys c.self.inside.bounds.items c.args.need.now c.args.place _ c.self.invariant.bounded at c.index-2.ensures

pub returns : goal.returns
returns c k =
    ap (λ l. has l k) c.new.ensures
    ∙ ap (λ (vs : List Text). has (meeting vs c.args.need.now) k) c.ranked.ensures
    ∙ has-meeting (versions_of c.args.self.now.releases) c.args.need.now k
