use Rattle.checker.proofs.Moving.{Grows-none, ends_new, ends_stay}
use Rattle.checker.proofs.pairing.ends_for.Goals as goal

pub returns-in_default-clause-grows : goal.returns-in_default-clause-grows
returns-in_default-clause-grows c = Grows-none c.args.lines.now.items

pub returns-in_default-clause-follows : goal.returns-in_default-clause-follows
returns-in_default-clause-follows c = ends_stay c.args.lines.now.items c.args.lines.now.items c.args.conclusion.now c.args.pivot c.args.ends (Grows-none c.args.lines.now.items)

pub returns-in-None-clause-follows : goal.returns-in-None-clause-follows
returns-in-None-clause-follows c =
    ends_stay c.args.lines.now.items c.paired_ends.new.lines.items c.args.conclusion.now c.args.pivot c.args.ends c.in_ok-paired_ends.ensures.grows

pub returns-in-Some-2-clause-follows : goal.returns-in-Some-2-clause-follows
returns-in-Some-2-clause-follows c =
    ends_new c.args.lines.now.items c.paired_ends.new.lines.items c.args.conclusion.now c.args.pivot c.args.ends c.in-Some-2.two (rw c.in-Some-2.is at c.in_ok-paired_ends.ensures.follows)
