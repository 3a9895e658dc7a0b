use Rattle.walk.proofs.choosing.Choosing.rule_out.Goals as goal

pub returns-clause-holds : goal.returns-clause-holds
returns-clause-holds c = λ wanted out h.
    c.in_ok-settle.ensures.holds wanted (c.in_ok-take_away.ensures.holds wanted out h)
