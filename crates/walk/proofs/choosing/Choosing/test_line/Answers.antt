use Rattle.walk.proofs.choosing.Choosing.test_line.Goals as goal

pub returns-clause-holds : goal.returns-clause-holds
returns-clause-holds c = λ wanted h.
    c.in_ok-take_away.ensures.holds wanted (c.is_at_odds_by.ensures c.if-not-is_at_odds_by.false wanted h) h
