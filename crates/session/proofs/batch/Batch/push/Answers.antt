use Rattle.std.proofs.Common.{List, ◌++◌, ◌∷◌, [], ap, length, ◌∙◌, arith}
use Rattle.session.specs.Batches.{Question}
use Rattle.session.proofs.batch.Batch.push.Goals as goal

pub push_reserved-requires : goal.push_reserved-requires
push_reserved-requires c =
    let same = ap (length {A = Question}) c.self.view_is in
    omega (arith, c.requires, same, c.self.invariant, c.self.inside.asked.ok.0)

pub returns : goal.returns
returns c = c.push_reserved.ensures.items ∙ ap (λ (l : List Question). l ++ (c.args.request, c.args.options) ∷ []) c.self.view_is
