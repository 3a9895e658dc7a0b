use Rattle.checker.proofs.Moving.{Grows-more, Grows-none}
use Rattle.checker.proofs.pairing.push_all.Goals as goal

pub halve-init : goal.halve-init
halve-init c = Grows-none c.args.lines.now.items

pub halve-preserved : goal.halve-preserved
halve-preserved c = Grows-more c.args.lines.now.items c.halve.lines.items c.push_pairs.new.lines.items c.halve.invariant c.in_ok-push_pairs.ensures

pub returns-in-None : goal.returns-in-None
returns-in-None c = Grows-more c.args.lines.now.items c.halve.lines.items c.push_pairs.new.lines.items c.halve.invariant c.in_ok-push_pairs.ensures
