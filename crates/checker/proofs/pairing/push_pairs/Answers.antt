use Rattle.checker.proofs.Moving.{Grows-more, Grows-none}
use Rattle.checker.proofs.pairing.push_pairs.Goals as goal

pub pairs-init : goal.pairs-init
pairs-init c = Grows-none c.args.lines.now.items

pub pairs-preserved : goal.pairs-preserved
pairs-preserved c = Grows-more c.args.lines.now.items c.pairs.lines.items c.push_both.new.lines.items c.pairs.invariant c.in_ok-push_both.ensures

pub returns-in-None : goal.returns-in-None
returns-in-None c = Grows-more c.args.lines.now.items c.pairs.lines.items c.push_both.new.lines.items c.pairs.invariant c.in_ok-push_both.ensures
