use Rattle.std.proofs.Common.{◌∙◌, sym, ap, length}
use Rattle.registry.proofs.PackageLemmas.{length-packages_in}
use Rattle.registry.specs.Rooms.{State}
use Rattle.registry.proofs.registry.Registry.packages.Goals as goal

pub returns-clause-packages : goal.returns-clause-packages
returns-clause-packages c =
    let seen = length-packages_in c.self.inside.names.keys c.self.inside.lists.items c.self.invariant.0 in
    c.len.ensures ∙ c.self.inside.lists.ok.0 ∙ sym c.self.invariant.0 ∙ sym seen ∙ ap (λ (s : State). length s.packages) c.self.view_is
