use Rattle.std.proofs.Common.{rules}
use Rattle.std.proofs.lemmas.Cmp.{nat_list_cmp_total}
use Rattle.std.proofs.lemmas.List.Sorted.{ranks_by, answers_always}
use Rattle.replies.specs.declared.listing.ListingEntry.{ListingEntry}
use Rattle.replies.proofs.listing.sorted.Goals as goal

pub returns-clause-ascending : goal.returns-clause-ascending
returns-clause-ascending c =
    c.sort_unstable_by.ensures.sorted _ (ranks_by nat_list_cmp_total (λ (e : ListingEntry). e.name.now)) (answers_always _ _ _ (λ f a r f' k. search rules))
