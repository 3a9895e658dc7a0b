use Rattle.std.proofs.lemmas.Option.{IfSome_then}
use Rattle.search.specs.Picking.{AreBarred}
use Rattle.search.proofs.Best.{best_locked, best_unlocked}
use Rattle.search.proofs.Decisions.{IfNone-then, none_barred}
use Rattle.search.proofs.picking.version_within.Goals as goal

pub returns-in-Some-clause-some : goal.returns-in-Some-clause-some
returns-in-Some-clause-some c =
    best_locked c.ahead_is_locked_or_higher.ensures c.args.task.now c.args.pkg c.args.said.now c.in-Some.ordinal c.precedence_is_a_total_preorder.ensures c.in-Some.ensures.some

pub returns-in-None-clause-some : goal.returns-in-None-clause-some
returns-in-None-clause-some c =
    IfSome_then c.highest_within.result c.highest_within.ensures.some
    (λ k h. best_unlocked c.ahead_is_locked_or_higher.ensures c.args.task.now c.args.pkg c.args.said.now k c.in-None.ensures.none h)

pub returns-in-None-clause-none : goal.returns-in-None-clause-none
returns-in-None-clause-none c =
    let Barred : Type 0 = AreBarred c.args.task.now c.args.pkg c.args.said.now in
    IfNone-then {Q = Barred} c.highest_within.result c.highest_within.ensures.none (λ h. none_barred c.ordinals_are_below_the_count.ensures.no_other c.args.task.now c.args.pkg c.args.said.now h)
