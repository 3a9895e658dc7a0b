use Rattle.wire.specs.Shapes.{listing}
use Rattle.answers.proofs.LawfulLemmas.{listed_reply, stopped_reply}
use Rattle.answers.proofs.answer.list.Goals as goal

pub returns-in-Ok : goal.returns-in-Ok
returns-in-Ok g c = listed_reply g.L.Backend.ways _ _ c.look.ensures.looks

pub returns-in-Err : goal.returns-in-Err
returns-in-Err g c = stopped_reply g.L.Backend.ways listing _ _ c.in-Err.e c.look.ensures.looks c.in-Err.ensures.stopped
