use Rattle.std.proofs.Common.{IfOk, subst, sym}
use Rattle.std.specs.Option.{option_map}
use Rattle.derivations.specs.Causes.{given_terms}
use Rattle.derivations.specs.Derivations.{Finds, Yields, conclusions}
use Rattle.derivations.specs.Lines.{Cause}
use Rattle.derivations.proofs.causes.find_given.Goals as goal

pub returns-in-Line : goal.returns-in-Line
returns-in-Line c =
    subst (λ (k : Cause). Finds (Yields c.args.registry.now.packages c.args.request.now (conclusions c.args.earlier.now) k) (option_map given_terms c.concluded.result)) (sym c.in-Line.is) c.concluded.ensures

pub returns-in-Need : goal.returns-in-Need
returns-in-Need c =
    subst (λ (k : Cause). IfOk c.need_given.result (λ found. Finds (Yields c.args.registry.now.packages c.args.request.now (conclusions c.args.earlier.now) k) (option_map given_terms found))) (sym c.in-Need.is) c.need_given.ensures
