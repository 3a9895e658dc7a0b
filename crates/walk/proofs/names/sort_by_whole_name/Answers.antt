use Rattle.std.proofs.Common.{of_calls, rules, ℕ}
use Rattle.std.proofs.lemmas.Fn.{always_returns_same}
use Rattle.std.proofs.lemmas.List.Sorted.{ranks_by}
use Rattle.std.specs.Cmp.Lexicographic.{nat_list_cmp_total}
use Rattle.std.specs.Ordering.{is_lt}
use Rattle.walk.specs.Names.{by_name, name_of}
use Rattle.walk.proofs.Fronts.{once_moved, same_moved}
use Rattle.walk.proofs.names.sort_by_whole_name.Goals as goal

pub returns-clause-sorted : goal.returns-clause-sorted
returns-clause-sorted c =
    let packages = c.args.registry.now.packages in
    let ranks = ranks_by nat_list_cmp_total (λ (e : ℕ × ℕ). name_of packages e.0) in
    c.sort_unstable_by.ensures.sorted (λ a b. is_lt (by_name packages a b)) ranks (always_returns_same _ _ _ (λ a r f' k. search (rules, of_calls)))

pub returns-clause-same : goal.returns-clause-same
returns-clause-same c = same_moved c.args.list.now c.sort_unstable_by.new.self c.sort_unstable_by.ensures.permutation c.requires

pub returns-clause-once : goal.returns-clause-once
returns-clause-once c = once_moved c.args.list.now c.sort_unstable_by.new.self c.sort_unstable_by.ensures.permutation c.requires
