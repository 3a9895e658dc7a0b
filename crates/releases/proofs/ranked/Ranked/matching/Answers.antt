use Rattle.releases.proofs.ranked.Ranked.matching.Goals as goal

pub between-requires-clause-plain : goal.between-requires-clause-plain
between-requires-clause-plain c = rw (← c.self.view_is) (c.self.invariant.2 c.if-self.true)
