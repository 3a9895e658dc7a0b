use Rattle.std.proofs.Common.{◌∙◌, sym, ap, List, ◌++◌, ◌∷◌, []}
use Rattle.std.proofs.lemmas.Result.{err_from_is_err_and}
use Rattle.versions.specs.Words.{Text, is_name}
use Rattle.versions.specs.declared.refusal.Refusal.TheVariants.{BadName}
use Rattle.wire.proofs.JudgeLemmas.{refuses_by, given_by, fails_at, take_next, holds_more}
use Rattle.wire.proofs.request.judging.names_in.Goals as goal

pub returns-in_err-read : goal.returns-in_err-read
returns-in_err-read c =
    let p = err_from_is_err_and c.from_residual-in_err-read.result c.from_residual-in_err-read.ensures.1 in
    rw (p.1, p.2) (refuses_by _ _ BadName _ _ c.in_err-read.ensures.gives (λ bad. rw (fails_at (λ (d : Text × Text). d.0) is_name c.args.pairs.now c.loop-place.place _ c.at.ensures bad)))

pub loop-place-preserved : goal.loop-place-preserved
loop-place-preserved c =
    let more = take_next (λ (d : Text × Text). d.0) is_name c.args.pairs.now c.loop-place.place _ c.at.ensures in
    let read = given_by _ _ _ BadName c.in_ok-read.ensures.gives in (
      c.in_ok-push.ensures.items ∙ ap (λ (t : Text). c.loop-place.names.items ++ t ∷ []) read.1
          ∙ ap (λ (l : List Text). l ++ c.at.result.0.now ∷ []) c.loop-place.invariant.0 ∙ sym more,
      holds_more (λ (d : Text × Text). d.0) is_name c.args.pairs.now c.loop-place.place _ c.at.ensures c.loop-place.invariant.1 read.0,
    )
