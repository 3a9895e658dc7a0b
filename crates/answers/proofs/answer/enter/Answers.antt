use Rattle.answers.proofs.LawfulLemmas.{entered_reply, refused_reply}
use Rattle.answers.proofs.answer.enter.Goals as goal

pub returns-in-Ok : goal.returns-in-Ok
returns-in-Ok g c = entered_reply g.L.Backend.ways _ _ c.args.command c.in-Ok.ensures.entered

pub returns-in-Err : goal.returns-in-Err
returns-in-Err g c = refused_reply g.L.Backend.ways _ _ c.args.command c.in-Err.refusal c.in-Err.ensures.refused.0 c.in-Err.ensures.refused.1
