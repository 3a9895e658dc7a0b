use Rattle.std.proofs.Common.{◌∙◌, ◌<◌, ap, sym, length, rules, []}
use Rattle.std.proofs.lemmas.List.{get_or-map}
use Rattle.registry.proofs.PackageLemmas.{length-mapped, versions_of-packages_of, versions_where}
use Rattle.registry.specs.Registry.{versions_of}
use Rattle.registry.specs.Rooms.{State}
use Rattle.registry.specs.Publications.{PublicationList, lists_of, publications_in}
use Rattle.std.specs.Option.{option_copied}
use Rattle.registry.proofs.registry.Registry.publications.Goals as goal

pub returns-in_err-index : goal.returns-in_err-index
returns-in_err-index c =
    let both = c.self.invariant.0 ∙ sym (length-mapped (λ (v : PublicationList). v.publications) c.self.inside.lists.items) in
    let seen = versions_of-packages_of c.self.inside.names.keys (lists_of c.self.inside.lists.items) c.args.name.now both in
    ap (λ o. publications_in (option_copied o)) c.from_residual.ensures
    ∙ ap (λ o. versions_where o (lists_of c.self.inside.lists.items)) c.in_err-index.ensures.index ∙ sym seen ∙ ap (λ (s : State). versions_of s.packages c.args.name.now) c.self.view_is

pub returns : goal.returns
returns c =
    let both = c.self.invariant.0 ∙ sym (length-mapped (λ (v : PublicationList). v.publications) c.self.inside.lists.items) in
    let seen = versions_of-packages_of c.self.inside.names.keys (lists_of c.self.inside.lists.items) c.args.name.now both in
    let within : c.in_ok-index.index < length c.self.inside.lists.items = search rules in
    let at = get_or-map (λ (v : PublicationList). v.publications) c.self.inside.lists.items c.in_ok-index.index c.index.result.now [] within in
    ap (λ (v : PublicationList). v.publications) c.index.ensures ∙ sym at
    ∙ ap (λ o. versions_where o (lists_of c.self.inside.lists.items)) c.in_ok-index.ensures.index ∙ sym seen ∙ ap (λ (s : State). versions_of s.packages c.args.name.now) c.self.view_is
