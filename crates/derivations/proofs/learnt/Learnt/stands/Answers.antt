use Rattle.std.proofs.Common.{List, subst}
use Rattle.std.specs.Prelude.{IfSome}
use Rattle.derivations.specs.Derivations.{last_conclusion}
use Rattle.derivations.specs.Facts.{Holds}
use Rattle.derivations.specs.Learning.{AllStand}
use Rattle.derivations.specs.Lines.{Line}
use Rattle.derivations.proofs.Sound.{learnt_conclusion, on_true}
use Rattle.derivations.proofs.learnt.Learnt.stands.Goals as goal

pub returns-clause-sound : goal.returns-clause-sound
returns-clause-sound c =
    on_true c.all_stand.result (λ t.
    subst (λ (lines : List Line). IfSome (last_conclusion lines) (Holds c.args.registry.now.packages)) c.self.view_is
    (learnt_conclusion c.args.registry.now.packages c.self.inside.lines.items c.self.invariant.0
    (subst (λ (lines : List Line). AllStand c.args.registry.now.packages lines) c.deref.ensures.value (c.all_stand.ensures.0 t))))
