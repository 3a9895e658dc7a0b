use Rattle.std.proofs.Common.{◌∷◌, of_calls, rules, ℕ}
use Rattle.std.proofs.lemmas.Fn.{always_returns_same}
use Rattle.std.proofs.lemmas.List.Sorted.{ranks_by}
use Rattle.std.specs.Cmp.Lexicographic.{nat_list_cmp_total}
use Rattle.std.specs.Ordering.{is_lt}
use Rattle.walk.specs.Names.{by_front, name_of}
use Rattle.walk.proofs.names.sort_fronted.Goals as goal

pub returns-clause-sorted : goal.returns-clause-sorted
returns-clause-sorted c =
    let packages = c.args.registry.now.packages in
    let ranks = ranks_by nat_list_cmp_total (λ (f : ℕ × (ℕ × ℕ)). f.0 ∷ name_of packages f.1.0) in
    c.sort_unstable_by.ensures.sorted (λ a b. is_lt (by_front packages a b)) ranks (always_returns_same _ _ _ (λ a r f' k. search (rules, of_calls)))
