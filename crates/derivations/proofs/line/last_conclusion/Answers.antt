use Rattle.std.proofs.Common.{◌∙◌, ◌-◌, length, sym}
use Rattle.std.proofs.lemmas.Bool.{eqb-true}
use Rattle.derivations.proofs.LastLine.{last_conclusion-at, last_conclusion-none, not_empty}
use Rattle.derivations.proofs.line.last_conclusion.Goals as goal

pub returns-then-is_empty : goal.returns-then-is_empty
returns-then-is_empty c = sym (last_conclusion-none c.args.lines.now (eqb-true (length c.args.lines.now) 0 (sym c.is_empty.ensures ∙ c.if-is_empty.true)))

pub returns : goal.returns
returns c =
    sym (last_conclusion-at c.args.lines.now (length c.args.lines.now - 1) c.index-lines-lines.result
    (not_empty (length c.args.lines.now) (sym c.is_empty.ensures ∙ c.if-is_empty.false)))
