use Rattle.std.proofs.Common.{refl}
use Rattle.walk.proofs.Bests.{grown_both, grown_narrows, grown_of, other_true}
use Rattle.walk.proofs.choosing.Choosing.take_away.Goals as goal

pub returns-in_default-clause-grown : goal.returns-in_default-clause-grown
returns-in_default-clause-grown c = grown_of c.args.self.now c.args.self.now refl refl

pub returns-then-not-some-clause-grown : goal.returns-then-not-some-clause-grown
returns-then-not-some-clause-grown c = grown_narrows _ c.args.version.0 c.args.self.now c.leave_out.new.self c.in_ok-some.ensures

pub returns-then-not-some-clause-holds : goal.returns-then-not-some-clause-holds
returns-then-not-some-clause-holds c = λ wanted out h.
    c.in_ok-some.ensures.holds c.args.registry.now.packages wanted (λ t meets has. other_true c.args.version.1 (t c.args.version.0) (out t meets has)) h

pub returns-clause-grown : goal.returns-clause-grown
returns-clause-grown c =
    grown_both c.args.self.now c.leave_out.new.self c.meet_only.new.self (grown_narrows _ c.args.version.0 c.args.self.now c.leave_out.new.self c.in_ok-some.ensures) c.in_ok-meet_only.ensures.grown

pub returns-clause-holds : goal.returns-clause-holds
returns-clause-holds c = λ wanted out h.
    c.in_ok-meet_only.ensures.holds wanted (c.in_ok-some.ensures.holds c.args.registry.now.packages wanted (λ t meets has. other_true c.args.version.1 (t c.args.version.0) (out t meets has)) h)
