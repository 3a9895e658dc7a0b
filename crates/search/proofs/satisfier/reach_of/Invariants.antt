use Rattle.search.proofs.Reaching.{IsReached}
use Rattle.search.proofs.satisfier.reach_of.Given as goal

abbrev pub invariant-loop-i : goal.invariant-loop-i
invariant-loop-i l = IsReached l.trail.made.items l.terms l.i l.reach.count l.reach.own l.reach.others
