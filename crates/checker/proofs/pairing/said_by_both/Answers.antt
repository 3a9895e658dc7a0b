use Rattle.std.proofs.Common.{◌∙◌, arith, rules, sym}
use Rattle.checker.proofs.Moving.{both_say}
use Rattle.checker.proofs.pairing.said_by_both.Goals as goal

pub returns : goal.returns
returns c =
    both_say c.args.lines.now c.args.places.0 c.args.places.1 c.args.pivot c.index-lines-i.result c.index-lines-j.result c.in_ok-said.said (omega arith) (omega arith)
    c.index-lines-i.is c.index-lines-j.is (sym c.has_pivot.ensures ∙ search rules) c.in_ok-said.ensures.follows
