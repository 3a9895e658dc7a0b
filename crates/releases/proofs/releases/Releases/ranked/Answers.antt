use Rattle.releases.proofs.releases.Releases.ranked.Goals as goal

pub new-requires-clause-plain : goal.new-requires-clause-plain
new-requires-clause-plain c = rw c.deref.ensures.value c.self.invariant.plain
