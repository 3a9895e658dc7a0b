use Rattle.std.proofs.Common.{◌≡◌, [], false, true, refl, sym}
use Rattle.terms.proofs.MergedWords.{begin, first-kept, none-kept, only-first, only-none, some-left, turn_left_out}
use Rattle.terms.specs.Merges.{is_over}
use Rattle.terms.proofs.merging.first_kept.Goals as goal

pub returns-then-word-eq0-clause-none : goal.returns-then-word-eq0-clause-none
returns-then-word-eq0-clause-none c k =
    sym (only-none c.args.rule c.args.first.now c.args.second.now c.in-Some.word c.requires.first c.requires.second c.in-Some.ensures c.if-word-eq0.true k)

pub returns-in-Some-clause-some : goal.returns-in-Some-clause-some
returns-in-Some-clause-some c =
    only-first c.args.rule c.args.first.now c.args.second.now c.in-Some.word c.requires.first c.requires.second c.in-Some.ensures c.if-word-eq0.false

pub merge-init : goal.merge-init
merge-init c = begin c.args.rule c.args.first.now c.args.second.now c.requires.first c.requires.second

pub merge-preserved : goal.merge-preserved
merge-preserved c =
    let more : is_over c.args.rule c.merge.left.now c.merge.right.now ≡ false = cc in
    turn_left_out c.args.rule c.args.first.now c.args.second.now [] c.merge.left.now c.merge.right.now c.merge.invariant (some-left c.args.rule c.merge.left.now c.merge.right.now more)
    c.least_number-number.result c.front_bits.result c.front_bits-in-merge.result c.kept_bits-bits.result [] c.behind-left.result.now c.behind-right.result.now
    c.least_number-number.ensures c.front_bits.ensures c.front_bits-in-merge.ensures c.kept_bits-bits.ensures c.behind-left.ensures c.behind-right.ensures
    c.if-bits-ne0.false refl

pub returns-then-bits-ne0-clause-some : goal.returns-then-bits-ne0-clause-some
returns-then-bits-ne0-clause-some c =
    let more : is_over c.args.rule c.merge.left.now c.merge.right.now ≡ false = cc in
    first-kept c.args.rule c.args.first.now c.args.second.now c.merge.left.now c.merge.right.now c.requires.first c.requires.second c.merge.invariant
    (some-left c.args.rule c.merge.left.now c.merge.right.now more)
    c.least_number-number.result c.front_bits.result c.front_bits-in-merge.result c.kept_bits-bits.result
    c.least_number-number.ensures c.front_bits.ensures c.front_bits-in-merge.ensures c.kept_bits-bits.ensures c.if-bits-ne0.true

pub returns-clause-none : goal.returns-clause-none
returns-clause-none c k =
    let over : is_over c.args.rule c.merge.left.now c.merge.right.now ≡ true = cc in
    sym (none-kept c.args.rule c.args.first.now c.args.second.now c.merge.left.now c.merge.right.now c.requires.first c.requires.second c.merge.invariant over k)
