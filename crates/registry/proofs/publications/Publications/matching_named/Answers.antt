use Rattle.registry.proofs.PublicationLemmas.{if-named}
use Rattle.registry.proofs.publications.Publications.matching_named.Goals as goal

pub returns : goal.returns
returns c =
    rw (← c.self.view_is) (if-named c.self.inside.releases.releases c.self.inside.needs.items c.self.inside.releases.needs c.args.place
    c.self.invariant.0 c.matching_named.result c.matching_named.ensures)
