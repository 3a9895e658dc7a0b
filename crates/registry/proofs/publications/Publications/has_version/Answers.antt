use Rattle.std.proofs.Common.{◌∙◌, ap, sym}
use Rattle.registry.specs.Publications.{PublicationList}
use Rattle.registry.specs.Registry.{has_version}
use Rattle.registry.proofs.PublicationLemmas.{has_version-releases}
use Rattle.registry.proofs.publications.Publications.has_version.Goals as goal

pub returns : goal.returns
returns c =
    c.is_some.ensures ∙ c.find.ensures.there
    ∙ sym (has_version-releases c.self.inside.releases.releases c.self.inside.needs.items c.args.version.now c.self.invariant.0)
    ∙ ap (λ (l : PublicationList). has_version l.publications c.args.version.now) c.self.view_is
