use Rattle.replies.specs.Replied.{body_of}
use Rattle.answers.proofs.LawfulLemmas.{found_reply, unfound_reply}
use Rattle.answers.proofs.answer.resolve.Goals as goal

pub returns-in-Ok : goal.returns-in-Ok
returns-in-Ok g c =
    found_reply g.L.Backend.ways c.args.request.now c.args.options.explain c.args.options.budget _ _ (body_of c.in-Ok.told) c.found_by.ensures.looks c.in-Ok.ensures.told

pub returns-in-Err : goal.returns-in-Err
returns-in-Err g c = unfound_reply g.L.Backend.ways c.args.request.now c.args.options.explain c.args.options.budget _ _ c.in-Err.e c.found_by.ensures.looks c.in-Err.ensures.only
