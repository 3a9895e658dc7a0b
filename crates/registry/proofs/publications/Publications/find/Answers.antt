use Rattle.std.proofs.Common.{◌∙◌, ap, sym}
use Rattle.registry.specs.Publications.{PublicationList}
use Rattle.registry.specs.Registry.{has_version}
use Rattle.registry.proofs.PublicationLemmas.{has_version-releases, if-found}
use Rattle.registry.proofs.publications.Publications.find.Goals as goal

pub returns-clause-there : goal.returns-clause-there
returns-clause-there c =
    c.find.ensures.there
    ∙ sym (has_version-releases c.self.inside.releases.releases c.self.inside.needs.items c.args.version.now c.self.invariant.0)
    ∙ ap (λ (l : PublicationList). has_version l.publications c.args.version.now) c.self.view_is

pub returns-clause-found : goal.returns-clause-found
returns-clause-found c =
    rw (← c.self.view_is) (if-found c.self.inside.releases.releases c.self.inside.needs.items c.args.version.now c.self.invariant.0 c.find.result c.find.ensures.found)
