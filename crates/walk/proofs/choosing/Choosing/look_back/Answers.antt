use Rattle.walk.proofs.choosing.Choosing.look_back.Goals as goal

pub returns-clause-holds : goal.returns-clause-holds
returns-clause-holds c = λ wanted h.
    c.in_ok-test_dependents.ensures.holds wanted (c.in_ok-test_versions.ensures.holds wanted h)
