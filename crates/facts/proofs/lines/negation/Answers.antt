use Rattle.std.proofs.Common.{◌∙◌, sym, ap, not}
use Rattle.terms.specs.Terms.{true_of}
use Rattle.facts.proofs.TermLemmas.{at-term, at-none, in_none}
use Rattle.facts.proofs.lines.negation.Goals as goal

pub returns-in_ok-copy-in-Some : goal.returns-in_ok-copy-in-Some
returns-in_ok-copy-in-Some c choice =
    c.negate.ensures.exact choice ∙ ap (λ t. not (true_of t choice)) c.in_ok-copy-in-Some.ensures.same
    ∙ ap not (sym (at-term c.args.incompat.now c.args.pkg c.in-Some.term.now choice (sym c.in-Some.ensures)))

pub returns-in-None : goal.returns-in-None
returns-in-None c choice = rw c.new.ensures (in_none choice ∙ ap not (sym (at-none c.args.incompat.now c.args.pkg choice (sym c.in-None.ensures))))
