use Rattle.std.proofs.Common.{refl}
use Rattle.walk.proofs.Bests.{ask_only, grown_of}
use Rattle.walk.proofs.choosing.Choosing.meet_only.Goals as goal

pub returns-in_default-clause-grown : goal.returns-in_default-clause-grown
returns-in_default-clause-grown c = grown_of c.args.self.now c.args.self.now refl refl

pub returns-clause-holds : goal.returns-clause-holds
returns-clause-holds c = λ wanted h.
    let packages = c.args.registry.now.packages in
    c.in_ok-meet.ensures.meets.holds wanted (ask_only packages wanted c.args.self.now.found.entries c.args.pkg c.in-Some.ordinal (c.in-Some.ensures packages wanted h)) h
