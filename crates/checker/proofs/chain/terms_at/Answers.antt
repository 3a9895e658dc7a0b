use Rattle.std.proofs.Common.{refl, sym, subst}
use Rattle.std.proofs.lemmas.Option.{slice_get_read}
use Rattle.derivations.specs.Facts.{Terms}
use Rattle.checker.specs.Shown.{IsShown}
use Rattle.checker.specs.Tables.{AreOnce}
use Rattle.checker.proofs.Joining.{once-ordered}
use Rattle.checker.proofs.Conclusions.{IsShown-line}
use Rattle.checker.proofs.chain.terms_at.Goals as goal

pub returns-in-Some-clause-once : goal.returns-in-Some-clause-once
returns-in-Some-clause-once c = subst (λ (terms : Terms). AreOnce terms) (sym c.terms.ensures.same) (once-ordered 0 c.in-Some.line.now.conclusion c.terms.ensures.lawful)

pub returns-in-Some-clause-shown : goal.returns-in-Some-clause-shown
returns-in-Some-clause-shown c packages wanted h =
    let found = c.in-Some.ensures.lookup in
    subst (IsShown packages wanted) (sym c.terms.ensures.same)
    (IsShown-line packages wanted c.args.known.now h.lawful h.ordered c.in-Line.at c.in-Some.line.now (slice_get_read c.args.known.now _ c.in-Line.at c.in-Some.line.now refl found.3.0 found.1))
