use Rattle.std.proofs.Common.{◌<◌, ◌∙◌, ap, sym, subst, arith}
use Rattle.search.specs.Assignments.{decisions, upto, LevelsFrom}
use Rattle.search.proofs.Saying.{upto-all, upto-last_above, LevelsFrom-front}
use Rattle.search.proofs.trail.go_back.Goals as goal

pub back-preserved : goal.back-preserved
back-preserved c =
    let old = c.back.trail.made.items in
    let new = c.undo.new.trail.made.items in
    let a = c.undo.ensures.made.0 in
    let levels = subst (LevelsFrom 0) c.undo.ensures.made.1 c.back.invariant.levels in
    let above : c.args.level < decisions old = omega (arith, c.back-test.true, c.level_of.ensures, ap decisions c.deref.ensures.value) in
    record {
      kept = c.undo.ensures.kept;
      levels = LevelsFrom-front 0 new a levels;
      same = sym (ap (upto c.args.level) c.undo.ensures.made.1 ∙ upto-last_above c.args.level new a levels (subst (λ xs. c.args.level < decisions xs) c.undo.ensures.made.1 above)) ∙ c.back.invariant.same;
    }

pub returns-clause-made : goal.returns-clause-made
returns-clause-made c =
    let old = c.back.trail.made.items in
    sym (upto-all c.args.level 0 old c.back.invariant.levels (omega (arith, c.back-test.false, c.level_of.ensures, ap decisions c.deref.ensures.value))) ∙ c.back.invariant.same
