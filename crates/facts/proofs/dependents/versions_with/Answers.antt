use Rattle.std.proofs.Common.{◌∙◌, ◌<◌, arith, sym, true≢false}
use Rattle.versions.specs.Words.{Text}
use Rattle.std.proofs.lemmas.Result.{IfOk-from_err}
use Rattle.facts.proofs.Publishing.{count, have_all, have_more, have_same, one_last}
use Rattle.facts.proofs.dependents.versions_with.Goals as goal
use Rattle.facts.proofs.dependents.versions_with.Goals.{then-is_one+in_ok-insert, else-is_one}

pub has_dependency-is_one-requires-clause-published : goal.has_dependency-is_one-requires-clause-published
has_dependency-is_one-requires-clause-published c =
    let lt : c.loop-ordinal.ordinal < count c.args.task.now.registry.now.packages c.args.pkg = omega arith in
    c.ordinals_are_below_the_count.ensures.published c.args.task.now.registry.now.packages c.args.pkg c.loop-ordinal.ordinal lt

pub returns : goal.returns
returns c =
    have_all c.ordinals_are_below_the_count.ensures.no_other c.args.task.now.registry.now.packages c.args.pkg (c.args.name.now, c.args.need.now) c.loop-ordinal.set c.loop-ordinal.ordinal (omega arith) c.loop-ordinal.invariant.set

pub loop-ordinal-preserved : goal.loop-ordinal-preserved
loop-ordinal-preserved c =
    let packages = c.args.task.now.registry.now.packages in
    let p = c.args.pkg in
    let entry : Text × Text = (c.args.name.now, c.args.need.now) in
    let old = c.loop-ordinal.set in
    let n = c.loop-ordinal.ordinal in
    let has = c.has_dependency-is_one.ensures in
    record {
      set = elim c.if-is_one.branch [
        | then-is_one+in_ok-insert w ↦ rw w.set-is (have_more packages p entry old w.insert.new.self n c.loop-ordinal.invariant.set w.in_ok-insert.ensures.added (has.0 w.if-is_one.true))
        | else-is_one w ↦ rw w.set-is (have_same packages p entry old n c.loop-ordinal.invariant.set (λ there. true≢false (sym (has.1 there) ∙ w.if-is_one.false)))
      ];
      last = one_last packages p entry c.has_dependency-is_one.result n has;
    }

-- where memory is refused

pub returns-in_err-insert : goal.returns-in_err-insert
returns-in_err-insert c = IfOk-from_err c.from_residual.result _ c.from_residual.ensures.0
