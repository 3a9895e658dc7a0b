use Rattle.walk.proofs.Bests.{ask_alike}
use Rattle.walk.proofs.choosing.Choosing.meet_if_alike.Goals as goal

pub returns-clause-holds : goal.returns-clause-holds
returns-clause-holds c = λ wanted each h.
    c.in_ok-meet.ensures.meets.holds wanted (ask_alike c.args.registry.now.packages wanted c.args.self.now.found.entries c.args.pkg (c.are_alike.ensures c.if-not-are_alike.false) each) h

pub returns-then-not-are_alike-clause-holds : goal.returns-then-not-are_alike-clause-holds
returns-then-not-are_alike-clause-holds c = λ wanted each h. c.in_ok-meet_only.ensures.holds wanted h
