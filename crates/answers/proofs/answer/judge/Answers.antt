use Rattle.wire.specs.Shapes.{check}
use Rattle.replies.specs.Replied.{body_of}
use Rattle.answers.proofs.LawfulLemmas.{judged_reply, stopped_reply}
use Rattle.answers.proofs.answer.judge.Goals as goal

pub returns-in-Ok : goal.returns-in-Ok
returns-in-Ok g c = judged_reply g.L.Backend.ways c.args.request.now c.args.derivation.now _ _ _ (body_of c.verdict_on.result) c.look.ensures.looks c.registry.ensures c.verdict_on.ensures

pub returns-in-Err : goal.returns-in-Err
returns-in-Err g c = stopped_reply g.L.Backend.ways (check c.args.request.now c.args.derivation.now) _ _ c.in-Err.e c.look.ensures.looks c.in-Err.ensures.stopped
