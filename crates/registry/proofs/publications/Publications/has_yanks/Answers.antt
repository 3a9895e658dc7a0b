use Rattle.std.proofs.Common.{◌∙◌, ap}
use Rattle.registry.specs.Publications.{PublicationList}
use Rattle.registry.specs.Registry.{has_yank}
use Rattle.registry.proofs.Yanks.{yanked-publications}
use Rattle.registry.proofs.publications.Publications.has_yanks.Goals as goal

pub returns : goal.returns
returns c =
    c.self.invariant.2
    ∙ yanked-publications c.self.inside.releases.releases c.self.inside.needs.items c.self.invariant.0
    ∙ ap (λ (l : PublicationList). has_yank l.publications) c.self.view_is
