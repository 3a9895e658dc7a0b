use Rattle.std.proofs.Common.{◌∙◌, ◌++◌, List, [], ◌∷◌, ap, arith, sym, take}
use Rattle.std.proofs.lemmas.List.{take_all, take_more}
use Rattle.derivations.specs.Lines.{Line}
use Rattle.derivations.proofs.line.copied.Goals as goal

pub loop-line-preserved : goal.loop-line-preserved
loop-line-preserved c =
    let lines = c.args.lines.now in
    let index = c.loop-line.line-index in
    c.in_ok-push.ensures.items ∙ ap (λ (copy : List Line). copy ++ c.in_ok-cloned.field-0 ∷ []) c.loop-line.invariant
    ∙ ap (λ (line : Line). take index lines ++ line ∷ []) (c.in_ok-cloned.ensures ∙ c.line-item.is)
    ∙ sym (take_more lines index c.line-item.result c.loop-line-test.true)

pub returns : goal.returns
returns c = c.loop-line.invariant ∙ take_all c.loop-line.line-index c.args.lines.now (omega (arith, c.loop-line-test.false))
