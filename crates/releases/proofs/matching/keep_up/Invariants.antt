use Rattle.releases.specs.Releases.{versions_of}
use Rattle.releases.proofs.MatchingLemmas.{IsKeepingUp}
use Rattle.releases.proofs.matching.keep_up.Given as goal

abbrev pub invariant-loop-i : goal.invariant-loop-i
invariant-loop-i l = IsKeepingUp (versions_of l.releases) l.version l.needs l.sets l.i
