use Rattle.releases.specs.Releases.{versions_of}
use Rattle.releases.proofs.MatchingLemmas.{IsMatchingBelow}
use Rattle.releases.proofs.matching.tested.Given as goal

abbrev pub invariant-loop-ordinal : goal.invariant-loop-ordinal
invariant-loop-ordinal l = IsMatchingBelow (versions_of l.releases) l.need l.ordinal l.set.ordinals
