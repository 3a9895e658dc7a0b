use Rattle.std.proofs.Common.{◌∙◌, ◌≡◌, ap, sym, subst, rules, true}
use Rattle.registry.proofs.PackageLemmas.{publication-seen, published-positive, within-list, within-lists}
use Rattle.registry.specs.Registry.{is_published, needs_or_none, publication_at}
use Rattle.registry.specs.Rooms.{State}
use Rattle.registry.proofs.registry.Registry.dependencies.Goals as goal

pub overflow_sub-pkg : goal.overflow_sub-pkg
overflow_sub-pkg c = published-positive c.args.self.now.packages c.args.pkg c.args.ordinal c.requires

pub index-list-requires : goal.index-list-requires
index-list-requires c =
    let there = subst (λ (s : State). is_published s.packages c.args.pkg c.args.ordinal ≡ true) (sym c.self.view_is) c.requires in
    let within = within-lists c.self.inside.names.keys c.self.inside.lists.items c.args.pkg c.args.ordinal c.self.invariant.0 there in
    search rules

pub at-requires : goal.at-requires
at-requires c =
    let there = subst (λ (s : State). is_published s.packages c.args.pkg c.args.ordinal ≡ true) (sym c.self.view_is) c.requires in
    within-list c.self.inside.names.keys c.self.inside.lists.items c.args.pkg c.args.ordinal c.self.invariant.0 there c.index-list.result.now c.index-list.ensures

pub returns-clause-needs : goal.returns-clause-needs
returns-clause-needs c =
    let there = subst (λ (s : State). is_published s.packages c.args.pkg c.args.ordinal ≡ true) (sym c.self.view_is) c.requires in
    sym (ap needs_or_none (ap (λ (s : State). publication_at s.packages c.args.pkg c.args.ordinal) (sym c.self.view_is)
    ∙ publication-seen c.self.inside.names.keys c.self.inside.lists.items c.args.pkg c.args.ordinal c.self.invariant.0 there c.index-list.result.now c.index-list.ensures
    ∙ c.at.ensures))
