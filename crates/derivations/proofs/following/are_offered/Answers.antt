use Rattle.std.proofs.Common.{refl, sym, true≢false}
use Rattle.derivations.specs.Learning.{Offers}
use Rattle.derivations.proofs.Judging.{one_more, one_wrong}
use Rattle.derivations.proofs.following.are_offered.Goals as goal

pub returns-then-not-branch : goal.returns-then-not-branch
returns-then-not-branch c = (
  λ t. absurd (true≢false (sym t)),
  λ all. absurd (one_wrong Offers c.args.lines.now _ c.loop-i.i c.index-lines-i.result c.in_ok-is_offered.field-0 c.loop-i-test.true c.index-lines-i.is refl c.if-not-branch.true c.in_ok-is_offered.ensures all),
)

pub loop-i-preserved : goal.loop-i-preserved
loop-i-preserved c =
    one_more Offers c.args.lines.now _ c.loop-i.i c.index-lines-i.result c.in_ok-is_offered.field-0 c.loop-i-test.true c.index-lines-i.is refl c.loop-i.invariant c.if-not-branch.false c.in_ok-is_offered.ensures
