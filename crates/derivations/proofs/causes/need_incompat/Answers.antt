use Rattle.std.proofs.Common.{◌∙◌, ◌∷◌, [], ap, sym, arith, List, ℕ}
use Rattle.std.specs.Prelude.{Option}
use Rattle.derivations.specs.Facts.{dependency, need_terms_at}
use Rattle.derivations.proofs.Soundness.{number_of-positive}
use Rattle.derivations.proofs.causes.need_incompat.Goals as goal

pub pair-requires : goal.pair-requires
pair-requires c = λ e. omega (arith, number_of-positive c.args.registry.now.packages c.args.name.now c.in-Some.pkg (sym c.in-Some.ensures), e)

pub returns-in_ok-pair-in-Some : goal.returns-in_ok-pair-in-Some
returns-in_ok-pair-in-Some c =
    c.in_ok-pair-in-Some.ensures
    ∙ ap (λ (root : List ℕ). dependency 0 root c.in-Some.pkg c.in_ok-matching_copy-in-Some.field-0) c.in_ok-single.ensures
    ∙ ap (λ (matching : List ℕ). dependency 0 (0 ∷ []) c.in-Some.pkg matching)
    c.in_ok-matching_copy-in-Some.ensures.set
    ∙ ap (λ (o : Option ℕ). need_terms_at c.args.registry.now.packages o c.args.need.now) c.in-Some.ensures
