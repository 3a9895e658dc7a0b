use Rattle.std.proofs.Common.{refl, sym, true≢false}
use Rattle.derivations.specs.Derivations.{Yields}
use Rattle.derivations.proofs.Judging.{one_more, one_wrong}
use Rattle.derivations.proofs.following.is_each_derived.Goals as goal

pub returns-then-not-branch : goal.returns-then-not-branch
returns-then-not-branch c = (
  λ t. absurd (true≢false (sym t)),
  λ all. absurd (one_wrong (Yields c.args.registry.now.packages c.args.request.now) c.args.lines.now _ c.loop-i.i c.index-lines-i.result c.in_ok-is_derived.field-0 c.loop-i-test.true c.index-lines-i.is refl c.if-not-branch.true c.in_ok-is_derived.ensures all),
)

pub loop-i-preserved : goal.loop-i-preserved
loop-i-preserved c =
    one_more (Yields c.args.registry.now.packages c.args.request.now) c.args.lines.now _ c.loop-i.i c.index-lines-i.result c.in_ok-is_derived.field-0 c.loop-i-test.true c.index-lines-i.is refl c.loop-i.invariant c.if-not-branch.false c.in_ok-is_derived.ensures
