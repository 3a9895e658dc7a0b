use Rattle.std.proofs.Common.{◌≡◌, false, true}
use Rattle.terms.proofs.MergedWords.{counting-begin, counting-end, counting-fits, counting-turn, only-counted, some-left}
use Rattle.terms.specs.Merges.{is_over}
use Rattle.terms.proofs.merging.count_kept.Goals as goal

pub merge-init : goal.merge-init
merge-init c = counting-begin c.args.rule c.args.first.now c.args.second.now c.requires.first c.requires.second

pub returns-in-Some : goal.returns-in-Some
returns-in-Some c = only-counted c.args.rule c.args.first.now c.args.second.now c.in-Some.word c.requires.first c.requires.second c.in-Some.ensures

pub overflow_add-total : goal.overflow_add-total
overflow_add-total c =
    let more : is_over c.args.rule c.merge.left.now c.merge.right.now ≡ false = cc in
    record {
      fits = counting-fits c.args.rule c.args.first.now c.args.second.now c.merge.left.now c.merge.right.now c.merge.total c.merge.invariant
          (some-left c.args.rule c.merge.left.now c.merge.right.now more)
          c.least_number-number.result c.front_bits.result c.front_bits-in-merge.result c.kept_bits-bits.result
          c.least_number-number.ensures c.front_bits.ensures c.front_bits-in-merge.ensures c.kept_bits-bits.ensures;
    }

pub merge-preserved : goal.merge-preserved
merge-preserved c =
    let more : is_over c.args.rule c.merge.left.now c.merge.right.now ≡ false = cc in
    counting-turn c.args.rule c.args.first.now c.args.second.now c.merge.left.now c.merge.right.now c.merge.total c.merge.invariant
    (some-left c.args.rule c.merge.left.now c.merge.right.now more)
    c.least_number-number.result c.front_bits.result c.front_bits-in-merge.result c.kept_bits-bits.result
    c.least_number-number.ensures c.front_bits.ensures c.front_bits-in-merge.ensures c.kept_bits-bits.ensures
    c.behind-left.result.now c.behind-right.result.now c.behind-left.ensures c.behind-right.ensures

pub returns : goal.returns
returns c =
    let over : is_over c.args.rule c.merge.left.now c.merge.right.now ≡ true = cc in
    counting-end c.args.rule c.args.first.now c.args.second.now c.merge.left.now c.merge.right.now c.merge.total c.requires.first c.requires.second c.merge.invariant over
