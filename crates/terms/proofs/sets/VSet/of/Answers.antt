use Rattle.std.proofs.Common.{◌∙◌, ap, nat_eq, sym}
use Rattle.std.proofs.lemmas.List.Sorted.{list_any-IsPermutation}
use Rattle.std.proofs.lemmas.Result.{IfOk-from_err}
use Rattle.terms.specs.Sets.{has}
use Rattle.terms.proofs.SameSets.{same_members}
use Rattle.terms.proofs.sets.VSet.of.Goals as goal

pub returns-clause-members : goal.returns-clause-members
returns-clause-members c k =
    ap (λ l. has l k) c.from_words-2.ensures.same ∙ c.in_ok-words_of-2.ensures.members k ∙ ap (λ l. has l k) c.deref.ensures.value
    ∙ sym (list_any-IsPermutation (λ x. nat_eq x k) _ _ c.in_ok-sort.ensures.permutation) ∙ ap (λ l. has l k) c.in_ok-sorted.ensures.items

pub returns-clause-same : goal.returns-clause-same
returns-clause-same c ascending = same_members 0 c.from_words-2.result c.args.ordinals.now c.from_words-2.ensures.ascending ascending (returns-clause-members c)

pub returns-then-is_sorted-clause-same : goal.returns-then-is_sorted-clause-same
returns-then-is_sorted-clause-same c ascending =
    same_members 0 c.from_words.result c.args.ordinals.now c.from_words.ensures.ascending ascending
    (λ k. ap (λ l. has l k) c.from_words.ensures.same ∙ c.in_ok-words_of.ensures.members k)

pub returns-in_err-words_of : goal.returns-in_err-words_of
returns-in_err-words_of c = let failed = c.from_residual in record { members = IfOk-from_err failed.result _ failed.ensures.0; ascending = IfOk-from_err failed.result _ failed.ensures.0; same = λ _. IfOk-from_err failed.result _ failed.ensures.0 }

pub returns-in_err-sorted : goal.returns-in_err-sorted
returns-in_err-sorted c = let failed = c.from_residual-in_err-sorted in record { members = IfOk-from_err failed.result _ failed.ensures.0; ascending = IfOk-from_err failed.result _ failed.ensures.0; same = λ _. IfOk-from_err failed.result _ failed.ensures.0 }

pub returns-in_err-sort : goal.returns-in_err-sort
returns-in_err-sort c = let failed = c.from_residual-in_err-sort in record { members = IfOk-from_err failed.result _ failed.ensures.0; ascending = IfOk-from_err failed.result _ failed.ensures.0; same = λ _. IfOk-from_err failed.result _ failed.ensures.0 }

pub returns-in_err-words_of-2 : goal.returns-in_err-words_of-2
returns-in_err-words_of-2 c = let failed = c.from_residual-in_err-words_of-2 in record { members = IfOk-from_err failed.result _ failed.ensures.0; ascending = IfOk-from_err failed.result _ failed.ensures.0; same = λ _. IfOk-from_err failed.result _ failed.ensures.0 }
