use Rattle.std.proofs.Common.{sym, subst}
use Rattle.std.specs.Option.{option_map}
use Rattle.derivations.specs.Causes.{given_terms}
use Rattle.derivations.specs.Derivations.{Finds, conclusions}
use Rattle.derivations.specs.Learning.{Offers}
use Rattle.derivations.specs.Lines.{Cause}
use Rattle.derivations.proofs.causes.find_offered.Goals as goal

pub returns-in-Line : goal.returns-in-Line
returns-in-Line c =
    subst (λ (cause : Cause). Finds (Offers (conclusions c.args.earlier.now) cause) (option_map given_terms c.concluded.result)) (sym c.in-Line.is) c.concluded.ensures
