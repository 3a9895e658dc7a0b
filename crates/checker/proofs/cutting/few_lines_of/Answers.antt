use Rattle.std.proofs.Common.{◌∙◌, List, subst, sym}
use Rattle.checker.specs.Cutting.{ShowsLine}
use Rattle.derivations.specs.Lines.{Line}
use Rattle.checker.proofs.cutting.few_lines_of.Goals as goal

pub returns-then-not-walked-clause-clear : goal.returns-then-not-walked-clause-clear
returns-then-not-walked-clause-clear c = record { lengths = c.cleared-zeros.ensures.length ∙ c.in_ok-walked.ensures.length; zeros = c.cleared-zeros.ensures.zeros }

pub returns : goal.returns
returns c = record {
  shows = subst (λ (lines : List Line). ShowsLine c.args.known.now c.args.place lines) (sym c.in_ok-lines_copied.ensures) (c.in_ok-walked.ensures.shows c.if-not-walked.false);
  clear = record { lengths = c.cleared-zeros.ensures.length ∙ c.in_ok-walked.ensures.length; zeros = c.cleared-zeros.ensures.zeros };
}
