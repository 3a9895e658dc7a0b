use Rattle.search.proofs.turns.turn.Goals as goal

pub returns-in-Derived-clause-turns : goal.returns-in-Derived-clause-turns
returns-in-Derived-clause-turns c = rw c.in-Derived.is at c.in_ok-propagate.ensures.acts

pub returns-in-Backjumped-clause-turns : goal.returns-in-Backjumped-clause-turns
returns-in-Backjumped-clause-turns c = rw c.in-Backjumped.is at c.in_ok-propagate.ensures.acts

pub returns-in-Refused-clause-turns : goal.returns-in-Refused-clause-turns
returns-in-Refused-clause-turns c = rw c.in-Refused.is at c.in_ok-propagate.ensures.acts
