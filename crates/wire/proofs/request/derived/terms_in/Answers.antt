use Rattle.std.proofs.Common.{◌≡◌, ◌∙◌, arith, sym, ap, List, Option, [], ◌∷◌, ◌++◌, take}
use Rattle.std.proofs.lemmas.List.{take_all}
use Rattle.versions.specs.Words.{Text}
use Rattle.terms.specs.declared.term.Term.{Term}
use Rattle.wire.specs.DerivedShapes.{term_said}
use Rattle.wire.proofs.ItemLemmas.{take_one_more}
use Rattle.wire.proofs.request.derived.terms_in.Goals as goal

pub loop-place-preserved : goal.loop-place-preserved
loop-place-preserved c =
    let more = take_one_more c.args.items.now c.loop-place.place _ c.at.ensures in
    c.in_ok-push.ensures.items ∙ ap (λ (t : Option Text × Term). c.loop-place.terms.items ++ t ∷ []) c.in_ok-term.ensures.same
    ∙ ap (λ (l : List (Option Text × Term)). l ++ term_said c.at.result ∷ []) c.loop-place.invariant ∙ sym more

pub returns-clause-same : goal.returns-clause-same
returns-clause-same c =
    let all : take c.loop-place.place c.args.items.now ≡ c.args.items.now = take_all _ _ (omega arith) in
    c.new.ensures ∙ c.loop-place.invariant ∙ all
