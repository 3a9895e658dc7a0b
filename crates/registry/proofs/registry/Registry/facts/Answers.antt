use Rattle.std.proofs.Common.{◌∙◌, ◌≡◌, ap, sym, subst, rules, true, List}
use Rattle.std.specs.Prelude.{Some}
use Rattle.versions.specs.Words.{Text}
use Rattle.registry.proofs.PackageLemmas.{publication-seen, published-positive, within-list, within-lists}
use Rattle.registry.specs.Registry.{is_published, publication_at}
use Rattle.registry.specs.Rooms.{State}
use Rattle.registry.proofs.registry.Registry.facts.Goals as goal

pub overflow_sub-pkg : goal.overflow_sub-pkg
overflow_sub-pkg c = published-positive c.args.self.now.packages c.args.pkg c.args.ordinal c.requires

pub index-list-requires : goal.index-list-requires
index-list-requires c =
    let there = subst (λ (s : State). is_published s.packages c.args.pkg c.args.ordinal ≡ true) (sym c.self.view_is) c.requires in
    let within = within-lists c.self.inside.names.keys c.self.inside.lists.items c.args.pkg c.args.ordinal c.self.invariant.0 there in
    search rules

pub at-requires : goal.at-requires
at-requires c =
    let there = subst (λ (s : State). is_published s.packages c.args.pkg c.args.ordinal ≡ true) (sym c.self.view_is) c.requires in
    within-list c.self.inside.names.keys c.self.inside.lists.items c.args.pkg c.args.ordinal c.self.invariant.0 there c.index-list.result.now c.index-list.ensures

pub returns : goal.returns
returns c =
    let there = subst (λ (s : State). is_published s.packages c.args.pkg c.args.ordinal ≡ true) (sym c.self.view_is) c.requires in
    ap (λ (s : State). publication_at s.packages c.args.pkg c.args.ordinal) (sym c.self.view_is)
    ∙ publication-seen c.self.inside.names.keys c.self.inside.lists.items c.args.pkg c.args.ordinal c.self.invariant.0 there c.index-list.result.now c.index-list.ensures
    ∙ c.at.ensures
    ∙ ap (λ (needs : List (Text × Text)). Some (record { version = c.at.result.0.now.version; needs = needs; yanked = c.at.result.0.now.yanked })) (sym c.needs.ensures)
