use Rattle.std.proofs.Common.{◌∙◌, ◌<◌, ◌-◌, sym, ap, arith, length}
use Rattle.std.specs.Option.{option_map, option_copied}
use Rattle.registry.specs.Registry.{Package, package_at}
use Rattle.registry.specs.Rooms.{State}
use Rattle.registry.proofs.PackageLemmas.{length-packages_in, name-at, package_at-next}
use Rattle.registry.proofs.registry.Registry.name.Goals as goal

pub unwrap-requires : goal.unwrap-requires
unwrap-requires c =
    let len = length-packages_in c.self.inside.names.keys c.self.inside.lists.items c.self.invariant.0 in
    let seen = ap (λ (s : State). length s.packages) c.self.view_is in
    let within : c.args.pkg - 1 < length c.self.inside.names.keys = omega (arith, len, seen, c.requires.first, c.requires.last) in
    c.get_index.ensures.found.1 within

pub returns : goal.returns
returns c =
    ap (λ (s : State). option_map (λ (p : Package). p.name) (package_at s.packages c.args.pkg)) (sym c.self.view_is)
    ∙ ap (λ o. option_map (λ (p : Package). p.name) o) (package_at-next _ c.args.pkg c.requires.first)
    ∙ name-at c.self.inside.names.keys c.self.inside.lists.items (c.args.pkg - 1) c.self.invariant.0
    ∙ sym c.get_index.ensures.key ∙ ap option_copied c.unwrap.ensures
