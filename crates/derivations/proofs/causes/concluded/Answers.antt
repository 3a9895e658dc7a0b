use Rattle.std.proofs.Common.{arith, subst}
use Rattle.derivations.specs.Derivations.{IsConclusion, conclusions}
use Rattle.derivations.specs.Lines.{Line}
use Rattle.derivations.proofs.Judging.{line_gives, no_line}
use Rattle.derivations.proofs.causes.concluded.Goals as goal

pub returns-then-number-earlier : goal.returns-then-number-earlier
returns-then-number-earlier c = λ terms h. no_line c.args.earlier.now c.args.number terms (omega arith) h

pub returns : goal.returns
returns c =
    subst (λ (line : Line). IsConclusion (conclusions c.args.earlier.now) c.args.number line.conclusion) c.index-earlier-number.is
    (line_gives c.args.earlier.now c.args.number c.index-earlier-number.result (λ e. omega (arith, e)) (omega arith) c.index-earlier-number.is)
