use Rattle.std.proofs.Common.{◌≡◌, ◌∙◌, sym, ap, List, [], ◌∷◌, ◌++◌, take, true, refl, arith}
use Rattle.std.proofs.lemmas.List.{take_all}
use Rattle.std.proofs.lemmas.Result.{err_from_is_err_and}
use Rattle.std.specs.List.{list_all}
use Rattle.versions.specs.Words.{is_requirement}
use Rattle.versions.specs.declared.refusal.Refusal.TheVariants.{BadRequirement}
use Rattle.wire.specs.DerivedShapes.{line_said}
use Rattle.wire.specs.NamedShapes.{line_requirements, premise_requirements}
use Rattle.by_name.specs.NamedLines.{NamedLine}
use Rattle.wire.proofs.ItemLemmas.{take_one_more}
use Rattle.wire.proofs.JudgeLemmas.{fails_within, given_by, holds_within, refuses_by}
use Rattle.wire.proofs.request.derived.derivation_in.Goals as goal

pub returns-in_err-line : goal.returns-in_err-line
returns-in_err-line c =
    let p = err_from_is_err_and c.from_residual-in_err-line.result c.from_residual-in_err-line.ensures.1 in
    rw (p.1, p.2) (refuses_by _ _ BadRequirement _ _ c.in_err-line.ensures (λ bad. rw (fails_within line_requirements is_requirement c.args.lines.now c.loop-place.place _ c.at.ensures bad)))

pub loop-place-preserved : goal.loop-place-preserved
loop-place-preserved c =
    let line = given_by _ _ _ BadRequirement c.in_ok-line.ensures in (
      c.in_ok-push.ensures.items ∙ ap (λ (l : NamedLine). c.loop-place.read.items ++ l ∷ []) line.1
          ∙ ap (λ (l : List NamedLine). l ++ line_said c.at.result ∷ []) c.loop-place.invariant.0 ∙ sym (take_one_more c.args.lines.now c.loop-place.place _ c.at.ensures),
      holds_within line_requirements is_requirement c.args.lines.now c.loop-place.place _ c.at.ensures c.loop-place.invariant.1 line.0,
    )

pub returns : goal.returns
returns c =
    let all : take c.loop-place.place c.args.lines.now ≡ c.args.lines.now = take_all _ _ (omega arith) in
    let good : list_all is_requirement (premise_requirements c.args.lines.now) ≡ true = ap (λ (l : List NamedLine). list_all is_requirement (premise_requirements l)) (sym all) ∙ c.loop-place.invariant.1 in
    let same = c.loop-place.invariant.0 ∙ all in
    rw (good, c.new.ensures, same) refl
