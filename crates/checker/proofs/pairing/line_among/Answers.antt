use Rattle.std.proofs.Common.{refl}
use Rattle.checker.proofs.Moving.{reason_fact, reason_resolved}
use Rattle.checker.proofs.pairing.line_among.Goals as goal

pub returns-in-Fact-clause-stands : goal.returns-in-Fact-clause-stands
returns-in-Fact-clause-stands c = λ known line_at m. reason_fact known c.args.lines.now.items c.args.places.now c.args.line c.in-Fact.cause line_at c.in-Fact.is

pub returns-in_ok-two-in-Resolved-clause-stands : goal.returns-in_ok-two-in-Resolved-clause-stands
returns-in_ok-two-in-Resolved-clause-stands c = λ known line_at m.
    reason_resolved known c.args.lines.now.items c.args.places.now c.args.line c.in-Resolved.i c.in-Resolved.j c.in-Resolved.pivot m line_at c.in-Resolved.is c.requires
    c.ends_for.new.lines.items c.args.line.conclusion c.in_ok-two-in-Resolved.two refl c.in_ok-two-in-Resolved.ensures.follows
