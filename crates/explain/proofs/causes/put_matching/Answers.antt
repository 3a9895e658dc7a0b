use Rattle.explain.proofs.causes.put_matching.Goals as goal

pub returns-in-Some : goal.returns-in-Some
returns-in-Some c = rw (← c.in-Some.ensures) c.put_met.ensures
