use Rattle.std.proofs.Common.{ap, arith, length}
use Rattle.registry.specs.Publications.{PublicationList}
use Rattle.registry.proofs.PublicationLemmas.{length-publications_of}
use Rattle.registry.proofs.publications.Publications.len.Goals as goal

pub returns : goal.returns
returns c =
    let count = length-publications_of c.self.inside.releases.releases c.self.inside.needs.items c.self.invariant.0 in
    let seen = ap (λ (l : PublicationList). length l.publications) c.self.view_is in
    omega (arith, count, seen, c.len.ensures, c.self.invariant.0, c.self.invariant.3, c.self.inside.spans.ok.0)
