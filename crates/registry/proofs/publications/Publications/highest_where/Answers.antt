use Rattle.std.proofs.Common.{ap, arith, length}
use Rattle.registry.specs.Publications.{PublicationList}
use Rattle.registry.proofs.PublicationLemmas.{if-highest, if-none, length-publications_of}
use Rattle.registry.proofs.publications.Publications.highest_where.Goals as goal

pub highest_where-requires : goal.highest_where-requires
highest_where-requires g c = λ k lt.
    let count = length-publications_of c.self.inside.releases.releases c.self.inside.needs.items c.self.invariant.0 in
    let seen = ap (λ (l : PublicationList). length l.publications) c.self.view_is in
    c.requires k (omega (arith, count, seen, lt))

pub returns-clause-some : goal.returns-clause-some
returns-clause-some g c =
    rw (← c.self.view_is) (if-highest (goal.F-post g c.args.passes) c.self.inside.releases.releases c.self.inside.needs.items c.self.invariant.0
    c.highest_where.result c.highest_where.ensures.some)

pub returns-clause-none : goal.returns-clause-none
returns-clause-none g c =
    rw (← c.self.view_is) (if-none (goal.F-post g c.args.passes) c.self.inside.releases.releases c.self.inside.needs.items c.self.invariant.0
    c.highest_where.result c.highest_where.ensures.none)
