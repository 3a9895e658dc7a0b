use Rattle.std.proofs.Common.{◌≡◌, ap, false, true, ◌∙◌}
use Rattle.std.proofs.lemmas.Result.{IfOk-from_err}
use Rattle.terms.proofs.MergedWords.{begin, merged, only-kept, some-left, turn}
use Rattle.terms.specs.Merges.{is_over, pushed}
use Rattle.terms.proofs.merging.combined.Goals as goal

pub returns-in-Some-clause-kept : goal.returns-in-Some-clause-kept
returns-in-Some-clause-kept c =
    only-kept c.args.rule c.args.first.now c.args.second.now c.in-Some.word c.requires.first c.requires.second c.in-Some.ensures c.push_word.new.words.items
    (c.in_ok-push_word.ensures ∙ ap (λ l. pushed l c.in-Some.word.number c.in-Some.word.bits) c.new-kept.ensures.items)

pub merge-init : goal.merge-init
merge-init c = rw c.new-kept.ensures.items (begin c.args.rule c.args.first.now c.args.second.now c.requires.first c.requires.second)

pub merge-preserved : goal.merge-preserved
merge-preserved c =
    let more : is_over c.args.rule c.merge.left.now c.merge.right.now ≡ false = cc in
    let some = some-left c.args.rule c.merge.left.now c.merge.right.now more in
    turn c.args.rule c.args.first.now c.args.second.now c.merge.kept.items c.merge.left.now c.merge.right.now c.merge.invariant some
    c.least_number-number.result c.front_bits.result c.front_bits-in-merge.result c.kept_bits-bits.result
    c.push_word-in-merge.new.words.items c.behind-left.result.now c.behind-right.result.now
    c.least_number-number.ensures c.front_bits.ensures c.front_bits-in-merge.ensures c.kept_bits-bits.ensures c.behind-left.ensures c.behind-right.ensures
    c.in_ok-push_word-2.ensures

pub returns-clause-kept : goal.returns-clause-kept
returns-clause-kept c =
    let over : is_over c.args.rule c.merge.left.now c.merge.right.now ≡ true = cc in
    merged c.args.rule c.args.first.now c.args.second.now c.merge.kept.items c.merge.left.now c.merge.right.now c.requires.first c.requires.second c.merge.invariant over

pub returns-in_err-push_word : goal.returns-in_err-push_word
returns-in_err-push_word c = let failed = c.from_residual in record { words = IfOk-from_err failed.result _ failed.ensures.0; kept = IfOk-from_err failed.result _ failed.ensures.0 }

pub returns-in_err-push_word-2 : goal.returns-in_err-push_word-2
returns-in_err-push_word-2 c = let failed = c.from_residual-in_err-push_word-2 in record { words = IfOk-from_err failed.result _ failed.ensures.0; kept = IfOk-from_err failed.result _ failed.ensures.0 }
