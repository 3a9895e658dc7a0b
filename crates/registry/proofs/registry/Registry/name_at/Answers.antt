use Rattle.std.proofs.Common.{◌∙◌, sym, ap}
use Rattle.std.specs.Option.{option_copied, option_map}
use Rattle.std.specs.Prelude.{slice_get}
use Rattle.registry.specs.Registry.{Package, package_at}
use Rattle.registry.specs.Rooms.{State}
use Rattle.registry.specs.Publications.{packages_in}
use Rattle.registry.proofs.PackageLemmas.{name-at, package_at-next, package_at-zero}
use Rattle.registry.proofs.registry.Registry.name_at.Goals as goal

pub returns-in_err-place-clause-name : goal.returns-in_err-place-clause-name
returns-in_err-place-clause-name c =
    ap option_copied c.from_residual.ensures
    ∙ sym (ap (λ o. option_map (λ (p : Package). p.name) o) (package_at-zero c.args.self.now.packages c.args.pkg c.in_err-place.ensures))

pub returns-clause-name : goal.returns-clause-name
returns-clause-name c =
    c.get_index.ensures.key
    ∙ sym (name-at c.self.inside.names.keys c.self.inside.lists.items c.in_ok-place.place c.self.invariant.0)
    ∙ ap (λ i. option_map (λ (p : Package). p.name) (slice_get (packages_in c.self.inside.names.keys c.self.inside.lists.items) i)) c.in_ok-place.ensures.1
    ∙ sym (ap (λ o. option_map (λ (p : Package). p.name) o) (package_at-next _ c.args.pkg c.in_ok-place.ensures.0))
    ∙ ap (λ (s : State). option_map (λ (p : Package). p.name) (package_at s.packages c.args.pkg)) c.self.view_is
