use Rattle.std.proofs.Common.{◌∙◌, ap}
use Rattle.std.specs.Prelude.{is_some}
use Rattle.derivations.specs.Derivations.{last_conclusion}
use Rattle.derivations.proofs.LastLine.{some_copied, some_last}
use Rattle.derivations.proofs.learnt.Learnt.conclusion.Goals as goal

pub unwrap-requires : goal.unwrap-requires
unwrap-requires c =
    some_copied c.last_conclusion.result
    (ap is_some (c.last_conclusion.ensures ∙ ap last_conclusion c.deref.ensures.value) ∙ some_last c.self.inside.lines.items c.self.invariant.0.some)
