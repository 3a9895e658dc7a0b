use Rattle.std.proofs.Common.{[], refl}
use Rattle.answers.proofs.LawfulLemmas.{learns_step}
use Rattle.answers.proofs.backend.learn_all.Goals as goal

pub loop-learnt-init : goal.loop-learnt-init
loop-learnt-init g c = ([], refl)

pub loop-learnt-preserved : goal.loop-learnt-preserved
loop-learnt-preserved g c =
    learns_step g.L.Backend.ways _ _ _ _ c.enter.result c.loop-learnt.invariant c.lines-lines.ensures.lawful c.enter.ensures.entered c.enter.ensures.refused
