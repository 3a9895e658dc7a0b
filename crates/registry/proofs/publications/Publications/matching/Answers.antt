use Rattle.registry.proofs.PublicationLemmas.{if-matching}
use Rattle.registry.proofs.publications.Publications.matching.Goals as goal

pub returns : goal.returns
returns c =
    rw (← c.self.view_is) (if-matching c.self.inside.releases.releases c.self.inside.needs.items c.args.need.now c.self.invariant.0 c.matching.result c.matching.ensures.members)
