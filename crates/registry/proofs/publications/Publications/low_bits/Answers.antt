use Rattle.registry.proofs.PublicationLemmas.{if-low_bits}
use Rattle.registry.proofs.publications.Publications.low_bits.Goals as goal

pub returns : goal.returns
returns c =
    rw (← c.self.view_is) (if-low_bits c.self.inside.releases.releases c.self.inside.needs.items c.self.inside.releases.needs c.args.place
    c.self.invariant.0 c.low_bits.result c.low_bits.ensures)
