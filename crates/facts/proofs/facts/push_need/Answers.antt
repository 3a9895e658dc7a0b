use Rattle.std.proofs.Common.{◌≡◌, ◌∙◌, ◌<◌, ℕ, List, ap, arith, get_or, length, refl, subst}
use Rattle.std.proofs.lemmas.Option.{slice_get_read}
use Rattle.std.proofs.lemmas.Result.{IfOk-weaker}
use Rattle.std.specs.Prelude.{Some, slice_get}
use Rattle.versions.specs.Words.{Text}
use Rattle.facts.specs.Pushing.{IsForNeed}
use Rattle.facts.proofs.facts.push_need.Goals as goal

-- the need that was read stands at its index
read : (lines needs : List (Text × Text)) (i : ℕ) (d : Text × Text) → lines ≡ needs → i < length needs → d ≡ get_or lines i d → slice_get needs i ≡ Some d
read lines needs i d same lt is =
    subst (λ (l : List (Text × Text)). slice_get l i ≡ Some d) same (slice_get_read lines (length lines) i d refl (omega (arith, ap length same, lt)) is)

pub push_fact-requires : goal.push_fact-requires
push_fact-requires c = (
  c.index-needs-index.result,
  read c.needs.result.now c.args.task.now.request.now.needs c.args.index c.index-needs-index.result c.needs.ensures.needs c.requires c.index-needs-index.is,
  c.in_ok-conclusion.ensures,
)

pub returns-clause-place : goal.returns-clause-place
returns-clause-place c =
    let needs = c.args.task.now.request.now.needs in
    let need = c.index-needs-index.result in
    let asked = read c.needs.result.now needs c.args.index need c.needs.ensures.needs c.requires c.index-needs-index.is in
    IfOk-weaker c.push_fact.result _ (IsForNeed c.args.task.now.registry.now.packages needs c.push_fact.new.known.items c.args.index)
    (λ at says. record { need = need; asked = asked; line = (says.0, says.1, says.2 ∙ c.in_ok-conclusion.ensures) }) c.push_fact.ensures.place
