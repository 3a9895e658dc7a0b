use Rattle.std.proofs.Common.{of_calls, rules}
use Rattle.std.specs.Cmp.Lexicographic.{nat_list_cmp_total}
use Rattle.std.specs.Ordering.{is_lt}
use Rattle.std.proofs.lemmas.Fn.{always_returns_same}
use Rattle.std.proofs.lemmas.List.Sorted.{ranks_by}
use Rattle.versions.specs.Words.{Text}
use Rattle.replies.specs.Locks.{by_name}
use Rattle.replies.proofs.lock.sort_by_name.Goals as goal

pub returns-clause-sorted : goal.returns-clause-sorted
returns-clause-sorted c =
    let ranks = ranks_by nat_list_cmp_total (λ (line : Text × Text). line.0) in
    c.sort_unstable_by.ensures.sorted (λ a b. is_lt (by_name a b)) ranks (always_returns_same _ _ _ (λ a r f' k. search (rules, of_calls)))
