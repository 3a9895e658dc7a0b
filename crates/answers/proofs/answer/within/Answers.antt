use Rattle.answers.proofs.LawfulLemmas.{refused_within_if}
use Rattle.answers.proofs.answer.within.Goals as goal

pub returns-in-Err : goal.returns-in-Err
returns-in-Err c = λ line is.
    let said = rw c.in-Err.is at is in
    refused_within_if c.args.settings.budget c.in-Err.fault _ said
